use Rattle.std.proofs.Common.{◌≡◌, ◌+◌, ◌<◌, ◌≤◌, ℕ, length, min, slice_index}
use Rattle.pef_plan.proofs.windows.window.lower_to_next.Given as goal

abbrev pub decreases-places : goal.decreases-places
decreases-places l = l.place

abbrev pub invariant-places : goal.invariant-places
invariant-places l = record {
  len : length l.values ≡ length l.fn.values;
  bound : l.place + l.width ≤ l.count;
  lower : (i : ℕ) → l.place ≤ i → i + l.width < l.count → slice_index l.values i ≡ min (slice_index l.fn.values i) (slice_index l.values (i + l.width));
  last : (i : ℕ) → l.count ≤ i + l.width → slice_index l.values i ≡ slice_index l.fn.values i;
  others : (i : ℕ) → i < l.place → slice_index l.values i ≡ slice_index l.fn.values i;
}
