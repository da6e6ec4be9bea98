use Rattle.std.proofs.Common.{◌≡◌, ◌+◌, ◌<◌, ◌≤◌, ℕ, length, min, slice_index}
use Rattle.pef_plan.proofs.windows.window.lower_line.Given as goal

abbrev pub invariant-places : goal.invariant-places
invariant-places l = record {
  len : length l.line ≡ length l.fn.line;
  lower : (i : ℕ) → i < l.place → slice_index l.line i ≡ min (slice_index l.fn.line i) (1 + slice_index l.others i);
  others_same : (i : ℕ) → l.place ≤ i → slice_index l.line i ≡ slice_index l.fn.line i;
}
