use Rattle.std.proofs.Common.{◌≡◌, ◌+◌, ◌<◌, ◌≤◌, ◌⊎◌, ℕ, length, min, slice_index}
use Rattle.pef_plan.proofs.rows.lower_line.Given as goal

abbrev pub invariant-classes : goal.invariant-classes
invariant-classes l = record {
  len : length l.row ≡ length l.fn.row;
  are : (d : ℕ) → d < l.d → slice_index l.row (l.start + d) ≡ min (min (slice_index l.fn.row (l.start + d)) (slice_index l.tops d)) l.top;
  others : (i : ℕ) → (i < l.start) ⊎ (l.start + l.d ≤ i) → slice_index l.row i ≡ slice_index l.fn.row i;
}
