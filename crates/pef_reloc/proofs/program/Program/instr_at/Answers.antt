use Rattle.std.proofs.Common.{rules}
use Rattle.pef_reloc.proofs.program.Program.instr_at.Goals as goal

pub loop-instr-preserved : goal.loop-instr-preserved
loop-instr-preserved c = search rules
