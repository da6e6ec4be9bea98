-- The programs of a linked container are least ones.
use Rattle.pef_write.proofs.LeastLemmas.{least_program}
use Rattle.pef_write.proofs.theorems.linked_programs_are_least.Goals as goal

pub returns : goal.returns
returns c = least_program
