use Rattle.std.proofs.Common.{rules}
use Rattle.pef_loader.proofs.fault.LoaderFault.number.Goals as goal

pub returns-in-RelocOutside : goal.returns-in-RelocOutside
returns-in-RelocOutside c = search rules
