use Rattle.pef_reloc.proofs.FlatLaws.{instrs_of-spelled, program_fault-spelled, relocated-spelled}
use Rattle.pef_reloc.proofs.theorems.spelled_programs.Goals as goal

pub returns : goal.returns
returns c = record { reads = instrs_of-spelled; readable = program_fault-spelled; does = relocated-spelled }
