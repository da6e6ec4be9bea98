use Rattle.std.proofs.Common.{◌≡◌, ◌+◌, ◌<◌, ℕ, length, slice_index}
use Rattle.pef_plan.specs.Runs.Tables.{label_in}
use Rattle.pef_plan.proofs.runs.suffix.SolvedSuffix.copy_labels.Given as goal

abbrev pub invariant-classes : goal.invariant-classes
invariant-classes l = record {
  len : length l.column ≡ length l.fn.column;
  are : (c : ℕ) → c < l.c → slice_index l.column c ≡ label_in (length l.self.registers.now + 1) l.self.labels.now.rows l.left c l.class;
}
