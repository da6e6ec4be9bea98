use Rattle.std.proofs.Common.{rules}
use Rattle.pef_pidata.proofs.instruction.Instruction.spelled_len.Goals as goal

pub returns-in-Repeat : goal.returns-in-Repeat
returns-in-Repeat c = search rules

pub returns-in-Weave : goal.returns-in-Weave
returns-in-Weave c = search rules
