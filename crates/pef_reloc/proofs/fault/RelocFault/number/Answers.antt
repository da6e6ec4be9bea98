use Rattle.std.proofs.Common.{rules}
use Rattle.pef_reloc.proofs.fault.RelocFault.number.Goals as goal

pub returns-in-WordOutside : goal.returns-in-WordOutside
returns-in-WordOutside c = search rules
