use Rattle.std.proofs.Common.{rules}
use Rattle.pef_write.proofs.fault.LinkFault.number.Goals as goal

pub returns : goal.returns
returns c = search rules
