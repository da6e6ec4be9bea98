use Rattle.std.proofs.Common.{rules}
use Rattle.pef_loader.proofs.painting.paint_cell.Goals as goal

pub returns-clause-painted : goal.returns-clause-painted
returns-clause-painted c = search rules

pub returns-clause-steps : goal.returns-clause-steps
returns-clause-steps c = search rules
