use Rattle.std.proofs.Common.{◌≡◌, ◌-◌, ◌<◌, ℕ, length, slice_index}
use Rattle.pef_plan.proofs.windows.close.fill_steps.Given as goal

abbrev pub invariant-places : goal.invariant-places
invariant-places l = record {
  len : length l.steps ≡ length l.fn.steps;
  done : (i : ℕ) → i < l.place → slice_index l.steps i ≡ slice_index l.row i - l.low;
}
