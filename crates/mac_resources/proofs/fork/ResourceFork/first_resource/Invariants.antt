-- The references left decide.
use Rattle.std.proofs.Common.{◌≡◌, ◌-◌}
use Rattle.pef_words.specs.Refusals.{first_among}
use Rattle.mac_resources.specs.References.{list_count}
use Rattle.mac_resources.specs.Resources.{resource_here}
use Rattle.mac_resources.specs.Views.{fork_seen}
use Rattle.mac_resources.proofs.fork.ResourceFork.first_resource.Given as goal

abbrev pub invariant-loop-row : goal.invariant-loop-row
invariant-loop-row l =
    first_among (resource_here (fork_seen l.self) l.list l.id) l.row (list_count l.list.kind - l.row)
    ≡ first_among (resource_here (fork_seen l.self) l.list l.id) 0 (list_count l.list.kind)
