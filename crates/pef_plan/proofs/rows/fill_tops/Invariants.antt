use Rattle.std.proofs.Common.{◌≡◌, ◌+◌, ◌<◌, ℕ, length, min, slice_index}
use Rattle.pef_plan.specs.Runs.Tables.{number_in}
use Rattle.pef_plan.proofs.rows.fill_tops.Given as goal

abbrev pub invariant-classes : goal.invariant-classes
invariant-classes l = record {
  len : length l.tops ≡ length l.fn.tops;
  are : (d : ℕ) → d < l.d → slice_index l.tops d ≡ min (number_in (length l.fn.tops) l.row l.cross.class d + 1) (min l.cross.line l.cross.column + 2);
}
