use Rattle.std.proofs.Common.{◌≡◌, ◌+◌, ◌<◌, ℕ, length, slice_index}
use Rattle.pef_plan.proofs.runs.ends.RunEnds.fill_alone.Given as goal

abbrev pub invariant-places : goal.invariant-places
invariant-places l = record {
  len : length l.row ≡ length l.fn.row;
  are : (i : ℕ) → i < l.place → slice_index l.row i ≡ l.cost + slice_index l.self.near.items i;
}
