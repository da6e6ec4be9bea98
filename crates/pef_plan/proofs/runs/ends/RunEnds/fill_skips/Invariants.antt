use Rattle.std.proofs.Common.{◌≡◌, ◌+◌, ◌<◌, ℕ, length, slice_index}
use Rattle.pef_plan.specs.Runs.Tables.{number_in}
use Rattle.pef_plan.proofs.runs.ends.RunEnds.fill_skips.Given as goal

abbrev pub invariant-classes : goal.invariant-classes
invariant-classes l = record {
  len : length l.skips ≡ length l.fn.skips;
  are : (c : ℕ) → c < l.c → slice_index l.skips c ≡ 1 + number_in (length l.known.registers.now + 1) l.near c l.class;
}
