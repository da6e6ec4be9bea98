use Rattle.std.proofs.Common.{◌≡◌, ◌<◌, ◌≤◌, ℕ, length, slice_index}
use Rattle.pef_plan.specs.Runs.Kept.Ahead.{value_ahead}
use Rattle.pef_plan.proofs.runs.suffix.move_in_class.Given as goal

abbrev pub invariant-classes : goal.invariant-classes
invariant-classes l = record {
  len : length l.values ≡ length l.fn.values;
  are : (c : ℕ) → c < l.c → slice_index l.values c ≡ value_ahead l.ahead (slice_index l.fn.values c) c l.class;
  left : (c : ℕ) → l.c ≤ c → slice_index l.values c ≡ slice_index l.fn.values c;
}
