use Rattle.std.proofs.Common.{◌≡◌, ◌+◌, ◌*◌, ◌<◌, ◌≤◌, ℕ, slice_index}
use Rattle.pef_cert.proofs.sets.line_holds.Given as goal

abbrev pub invariant-loop-x : goal.invariant-loop-x
invariant-loop-x l = record {
  above : (x : ℕ) → x < l.x → l.lowest ≤ slice_index l.row (l.from + x * l.stride);
  below : (x : ℕ) → x < l.x → slice_index l.row (l.from + x * l.stride) ≤ l.highest;
  low : (x : ℕ) × (x < l.count) × (slice_index l.row (l.from + x * l.stride) ≡ l.lowest);
  high : (x : ℕ) × (x < l.count) × (slice_index l.row (l.from + x * l.stride) ≡ l.highest);
}
