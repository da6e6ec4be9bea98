-- A list without rows changes nothing of what is left.
use Rattle.std.proofs.Common.{◌≡◌, ◌-◌}
use Rattle.mac_resources.specs.Views.{left}
use Rattle.mac_resources.proofs.resources.ResourcesIterator.next.Given as goal

abbrev pub decreases-lists : goal.decreases-lists
decreases-lists l = l.self.fork.type_count - l.self.type_row

abbrev pub invariant-lists : goal.invariant-lists
invariant-lists l = left l.self ≡ left l.fn.self
