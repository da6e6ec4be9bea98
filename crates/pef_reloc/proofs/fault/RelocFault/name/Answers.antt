use Rattle.std.proofs.Common.{rules}
use Rattle.pef_reloc.proofs.fault.RelocFault.name.Goals as goal

pub returns-in-TooManySteps : goal.returns-in-TooManySteps
returns-in-TooManySteps c = search rules
