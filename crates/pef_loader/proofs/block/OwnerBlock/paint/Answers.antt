-- Each step leads to the next cell.
use Rattle.std.proofs.Common.{rules, arith}
use Rattle.pef_loader.proofs.PaintLemmas.{first_steps}
use Rattle.pef_loader.proofs.block.OwnerBlock.paint.Goals as goal

pub paint_owners-requires-clause-steps : goal.paint_owners-requires-clause-steps
paint_owners-requires-clause-steps c = first_steps 2048 _ (search (rules, arith))
