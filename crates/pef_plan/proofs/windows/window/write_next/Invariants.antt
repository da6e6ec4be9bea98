use Rattle.std.proofs.Common.{◌≡◌, ◌+◌, ◌<◌, ◌≤◌, ℕ, length, min, slice_index}
use Rattle.pef_plan.proofs.windows.window.write_next.Given as goal

abbrev pub invariant-places : goal.invariant-places
invariant-places l = record {
  values_len : length l.values ≡ length l.fn.values;
  low_len : length l.low ≡ length l.fn.low;
  row_is : (i : ℕ) → i < l.place → slice_index l.values (l.start + i) ≡ slice_index l.row i;
  before : (i : ℕ) → i < l.start → slice_index l.values i ≡ slice_index l.fn.values i;
  after : (i : ℕ) → l.start + l.place ≤ i → slice_index l.values i ≡ slice_index l.fn.values i;
  lesser : (i : ℕ) → i < l.place → slice_index l.low i ≡ min (slice_index l.fn.low i) (slice_index l.row i);
  others : (i : ℕ) → l.place ≤ i → slice_index l.low i ≡ slice_index l.fn.low i;
}
