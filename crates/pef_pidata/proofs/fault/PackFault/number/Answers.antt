use Rattle.std.proofs.Common.{rules}
use Rattle.pef_pidata.proofs.fault.PackFault.number.Goals as goal

pub returns-in-TooLong : goal.returns-in-TooLong
returns-in-TooLong c = search rules
