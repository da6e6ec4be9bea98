use Rattle.pef_reloc.proofs.Readback.{instrs_of-fit, spelled-instrs_of}
use Rattle.pef_reloc.proofs.theorems.readable_programs.Goals as goal

pub returns : goal.returns
returns c = record { spelled = spelled-instrs_of; fit = instrs_of-fit }
