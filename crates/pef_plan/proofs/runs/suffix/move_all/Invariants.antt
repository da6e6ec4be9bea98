use Rattle.std.proofs.Common.{◌≡◌, ◌+◌, ◌<◌, ◌≤◌, ℕ, length, slice_index}
use Rattle.pef_plan.specs.Runs.Kept.Ahead.{value_ahead}
use Rattle.pef_plan.specs.Runs.Tables.{number_in, place_of}
use Rattle.pef_plan.proofs.RunsProofs.PlaceLemmas.{Filled}
use Rattle.pef_plan.proofs.runs.suffix.move_all.Given as goal

abbrev pub invariant-places : goal.invariant-places
invariant-places l = record {
  len : length l.values ≡ length l.fn.values;
  place : l.place ≡ place_of l.classes l.c l.d;
  d : l.d < l.classes;
  filled : Filled l.classes (λ c d v. (v ≡ value_ahead l.ahead (number_in l.classes l.fn.values c d) c d) × (v ≤ 2 + number_in l.classes l.fn.values c d)) l.values l.place;
  left : (i : ℕ) → l.place ≤ i → slice_index l.values i ≡ slice_index l.fn.values i;
}
