-- The errors so far and those of the rows left are all.
use Rattle.std.proofs.Common.{◌≡◌, ◌++◌}
use Rattle.mac_resources.specs.Resources.{all_resources}
use Rattle.mac_resources.specs.Views.{fork_seen, left}
use Rattle.mac_rows.specs.Faults.{resources_faults}
use Rattle.mac_rows.proofs.faults.find_in_resources.Given as goal

abbrev pub invariant-loop-row : goal.invariant-loop-row
invariant-loop-row g l = l.found.items ++ resources_faults l.base (left l.row-iterator) ≡ l.fn.found.items ++ resources_faults l.base (all_resources (fork_seen l.fork))
