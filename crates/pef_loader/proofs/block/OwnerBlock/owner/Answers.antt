use Rattle.std.proofs.Common.{rules}
use Rattle.pef_loader.proofs.block.OwnerBlock.owner.Goals as goal

pub bounds-self-j : goal.bounds-self-j
bounds-self-j c = search rules

pub returns-clause-value : goal.returns-clause-value
returns-clause-value c = search rules
