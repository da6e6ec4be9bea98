-- Granules: what the addresses of instances, and the memory that they take, can be multiples of. The format says nothing of
-- them, so this is this project's own rule.
use Rattle.std.specs.Prelude.{ℕ, Result, Ok, Err, ◌&&◌, if◌then◌else◌, nat_le}
use Rattle.std.specs.Int.{is_power_of_two}
use Rattle.cfm_memory.specs.Limits.{grain}
use Rattle.cfm_memory.specs.declared.granule.GranuleFault.{GranuleFault}
use Rattle.cfm_memory.specs.declared.granule.GranuleFault.TheVariants.{BadGranule}

-- the granule that a number is: a power of two from the least one on
abbrev pub granule_of : ℕ → Result ℕ GranuleFault
granule_of n = if is_power_of_two n && nat_le grain n then Ok n else Err BadGranule
