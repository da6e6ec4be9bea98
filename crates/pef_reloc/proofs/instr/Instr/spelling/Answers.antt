use Rattle.std.proofs.Common.{rules}
use Rattle.pef_reloc.specs.Instrs.{halfwords_of}
use Rattle.pef_reloc.proofs.instr.Instr.spelling.Goals as goal

pub returns-in-TVector8 : goal.returns-in-TVector8
unfolding halfwords_of
returns-in-TVector8 c = search rules
