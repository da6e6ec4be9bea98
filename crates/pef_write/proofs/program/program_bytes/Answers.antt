use Rattle.std.proofs.Common.{rules}
use Rattle.pef_write.proofs.program.program_bytes.Goals as goal

pub returns : goal.returns
returns c = search rules
