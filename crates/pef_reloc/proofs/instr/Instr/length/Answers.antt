use Rattle.std.proofs.Common.{rules}
use Rattle.pef_reloc.proofs.instr.Instr.length.Goals as goal

pub returns-in-SetPosition : goal.returns-in-SetPosition
returns-in-SetPosition c = search rules
