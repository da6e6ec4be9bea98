-- The cells before this one are empty.
use Rattle.std.proofs.Common.{◌≡◌, ◌-◌, ◌^◌, ◌<◌, ℕ, length}
use Rattle.std.specs.Prelude.{slice_index}
use Rattle.pef_loader.proofs.block.clear.Given as goal

abbrev pub invariant-loop-k : goal.invariant-loop-k
invariant-loop-k l = record {
  empty : (m : ℕ) → m < l.k → slice_index l.cells m ≡ 2 ^ 32 - 1;
  len : length l.cells ≡ length l.fn.cells;
}
