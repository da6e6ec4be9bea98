use Rattle.std.proofs.Common.{rules}
use Rattle.pef_reloc.proofs.program.Program.flat.Goals as goal

pub returns-then-is_some : goal.returns-then-is_some
returns-then-is_some c = search rules
