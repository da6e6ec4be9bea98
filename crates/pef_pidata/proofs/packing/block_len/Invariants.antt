-- Each byte that was passed over is copied.
use Rattle.std.proofs.Common.{◌-◌, ◌≤◌, length}
use Rattle.pef_pidata.specs.Kept.Runs.{IsCopiedTo}
use Rattle.pef_pidata.proofs.packing.block_len.Given as goal

abbrev pub invariant-loop-at : goal.invariant-loop-at
invariant-loop-at l = record {
  within : l.at ≤ length l.image;
  copied : IsCopiedTo l.image l.at;
}

abbrev pub decreases-loop-at : goal.decreases-loop-at
decreases-loop-at l = length l.image - l.at
