use Rattle.std.proofs.Common.{◌≡◌, ◌<◌, ℕ, length, slice_index}
use Rattle.pef_plan.proofs.rows.copy_line.Given as goal

abbrev pub invariant-classes : goal.invariant-classes
invariant-classes l = record {
  len : length l.line ≡ length l.fn.line;
  are : (d : ℕ) → d < l.d → slice_index l.line d ≡ slice_index l.numbers d;
}
