-- Sixteen is a power of two.
use Rattle.std.proofs.Common.{refl, arith}
use Rattle.cfm_memory.proofs.granule.Granule.least.Goals as goal

pub invariant_of-result : goal.invariant_of-result
unfolding lib.Count.ones
invariant_of-result c = record { is_granule = record { power_of_two = refl; least = omega arith; small = omega arith } }
