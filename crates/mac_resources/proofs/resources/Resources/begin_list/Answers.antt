-- The next type: its error, the error of its list, or its rows.
use Rattle.std.proofs.Common.{◌∙◌, ◌<◌, ◌≤◌, sym}
use Rattle.mac_resources.specs.References.{list_count}
use Rattle.mac_resources.specs.Views.{fork_seen}
use Rattle.mac_resources.proofs.ListLemmas.{left-cut, left-list, left-over}
use Rattle.mac_resources.proofs.resources.Resources.begin_list.Goals as goal

pub returns-in-Err-clause-value : goal.returns-in-Err-clause-value
returns-in-Err-clause-value c =
    let s = c.args.self.now in
    left-cut (fork_seen s.fork) s.list s.row s.type_row s.budget c.in-Err.fault c.requires.done c.requires.more (sym c.type_at.ensures ∙ c.in-Err.is)

pub returns-then-count-self-clause-value : goal.returns-then-count-self-clause-value
returns-then-count-self-clause-value c =
    let s = c.args.self.now in
    let count = c.from-count.ensures ∙ c.count.ensures in
    let over : s.budget < list_count c.in-Ok.kind = rw count at c.if-count-self.true in
    rw (c.type_place.ensures.value) (left-over (fork_seen s.fork) s.list s.row s.type_row s.budget c.in-Ok.kind c.requires.done c.requires.more (sym c.type_at.ensures ∙ c.in-Ok.is) over)

pub returns-clause-value : goal.returns-clause-value
returns-clause-value c =
    let s = c.args.self.now in
    let count = c.from-count.ensures ∙ c.count.ensures in
    let fits : list_count c.in-Ok.kind ≤ s.budget = rw count at c.if-count-self.false in
    rw count (left-list (fork_seen s.fork) s.list s.row s.type_row s.budget c.in-Ok.kind c.requires.done c.requires.more (sym c.type_at.ensures ∙ c.in-Ok.is) fits)
