use Rattle.std.proofs.Common.{◌≡◌, ◌+◌, ◌<◌, ◌≤◌, ℕ, length, slice_index}
use Rattle.pef_plan.proofs.windows.window.write_first.Given as goal

abbrev pub invariant-places : goal.invariant-places
invariant-places l = record {
  values_len : length l.values ≡ length l.fn.values;
  low_len : length l.low ≡ length l.fn.low;
  row_is : (i : ℕ) → i < l.place → slice_index l.values (0 + i) ≡ slice_index l.row i;
  after : (i : ℕ) → l.place ≤ i → slice_index l.values i ≡ slice_index l.fn.values i;
  first : (i : ℕ) → i < l.place → slice_index l.low i ≡ slice_index l.row i;
}
