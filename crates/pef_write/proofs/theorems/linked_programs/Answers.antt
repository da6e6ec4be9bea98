-- The programs of a linked container relocate their sections.
use Rattle.pef_write.proofs.LinkedPrograms.{section_programs}
use Rattle.pef_write.proofs.theorems.linked_programs.Goals as goal

pub returns : goal.returns
returns c = section_programs
