-- What is passed over changes nothing of what is left.
use Rattle.std.proofs.Common.{◌≡◌, length}
use Rattle.cfm_members.specs.Views.{places_left}
use Rattle.cfm_members.proofs.search.ContainersIterator.next.Given as goal

abbrev pub decreases-tags : goal.decreases-tags
decreases-tags l = length l.self.rest.now

abbrev pub invariant-tags : goal.invariant-tags
invariant-tags l = places_left l.self ≡ places_left l.fn.self
