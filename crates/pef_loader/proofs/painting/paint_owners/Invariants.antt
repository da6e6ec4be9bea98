-- The libraries before this one were looked at.
use Rattle.std.proofs.Common.{◌≡◌, length}
use Rattle.pef_loader.specs.Kept.Blocks.{AreOwnersBefore, AreSteps}
use Rattle.pef_loader.proofs.painting.paint_owners.Given as goal

abbrev pub invariant-loop-i : goal.invariant-loop-i
invariant-loop-i l = record {
  owners : AreOwnersBefore l.tables.cut.bytes.now l.i l.from l.cells;
  steps : AreSteps l.cells l.steps;
  len : length l.cells ≡ length l.fn.cells;
}
