use Rattle.std.proofs.Common.{rules}
use Rattle.pef_reloc.specs.Unrolled.{instrs_of}
use Rattle.pef_reloc.proofs.program.Program.instrs.Goals as goal

pub returns : goal.returns
unfolding instrs_of
returns c = search rules
