-- The places before this one don't have the address.
use Rattle.std.proofs.Common.{ℕ, ◌<◌}
use Rattle.cfm_memory.specs.Extents.{place_at}
use Rattle.cfm_prepare.specs.Locations.{IsInto}
use Rattle.cfm_prepare.proofs.locations.place_with.Given as goal

abbrev pub invariant-loop-k : goal.invariant-loop-k
invariant-loop-k l = (k offset : ℕ) → k < l.k → IsInto (place_at l.places k) l.address offset → ⊥
