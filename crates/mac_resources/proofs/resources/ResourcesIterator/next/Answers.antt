-- After the last type nothing is left.
use Rattle.std.proofs.Common.{◌≤◌, ◌∙◌, sym}
use Rattle.mac_resources.specs.References.{list_count}
use Rattle.mac_resources.specs.Views.{fork_seen}
use Rattle.mac_resources.proofs.ListLemmas.{left-end}
use Rattle.mac_resources.proofs.resources.ResourcesIterator.next.Goals as goal

pub returns-then-self-clause-steps : goal.returns-then-self-clause-steps
returns-then-self-clause-steps c =
    let s = c.lists.self in
    let done : list_count s.list.kind ≤ s.row = rw (c.count.ensures) at c.lists-test.true in
    let none = left-end (fork_seen s.fork) s.list s.row s.type_row s.budget done c.if-self.true in (
      sym c.lists.invariant ∙ none,
      none,
    )
