use Rattle.std.proofs.Common.{◌≡◌, ◌+◌, ◌<◌, ℕ, length, slice_index}
use Rattle.pef_plan.proofs.windows.close.raise.Given as goal

abbrev pub invariant-places : goal.invariant-places
invariant-places l = record {
  len : length l.row ≡ length l.fn.row;
  done : (i : ℕ) → i < l.place → slice_index l.row i ≡ l.low + slice_index l.steps i;
}
