-- The types left decide.
use Rattle.std.proofs.Common.{◌≡◌, ◌-◌}
use Rattle.pef_words.specs.Refusals.{first_among}
use Rattle.mac_resources.specs.Resources.{list_here}
use Rattle.mac_resources.specs.Views.{fork_seen}
use Rattle.mac_resources.proofs.fork.ResourceFork.first_list.Given as goal

abbrev pub invariant-loop-row : goal.invariant-loop-row
invariant-loop-row l =
    first_among (list_here (fork_seen l.self) l.type_code) l.row (l.self.type_count - l.row)
    ≡ first_among (list_here (fork_seen l.self) l.type_code) 0 l.self.type_count
