use Rattle.std.proofs.Common.{◌≡◌, ◌+◌, ◌<◌, ℕ, length, slice_index}
use Rattle.pef_plan.specs.Runs.Tables.{place_of}
use Rattle.pef_plan.proofs.runs.suffix.SolvedSuffix.copy_column.Given as goal

abbrev pub invariant-classes : goal.invariant-classes
invariant-classes l = record {
  len : length l.column ≡ length l.fn.column;
  are : (c : ℕ) → c < l.c → slice_index l.column c ≡ slice_index l.row (place_of (length l.self.registers.now + 1) c l.class);
}
