-- The powers that are left decide.
use Rattle.std.proofs.Common.{◌≡◌, ◌-◌}
use Rattle.pef_hash.specs.Limits.{most_written_power}
use Rattle.pef_hash.specs.Word.{least_power, power_of}
use Rattle.pef_hash.proofs.word.power_for.Given as goal

abbrev pub invariant-loop-power : goal.invariant-loop-power
invariant-loop-power l = least_power l.count l.power (most_written_power - l.power) ≡ power_of l.count
