use Rattle.std.proofs.Common.{rules}
use Rattle.pef_pidata.proofs.fault.PackFault.name.Goals as goal

pub returns-in-TooLong : goal.returns-in-TooLong
returns-in-TooLong c = search rules
