use Rattle.std.proofs.Common.{rules}
use Rattle.pef_reloc.proofs.instr.Instr.repeat.Goals as goal

pub returns-in-SmRepeat : goal.returns-in-SmRepeat
returns-in-SmRepeat c = search rules
