use Rattle.std.proofs.Common.{◌≡◌, length}
use Rattle.pef_reloc.specs.Instrs.{repeat_free}
use Rattle.pef_reloc.specs.Unrolled.{instrs_of}
use Rattle.pef_reloc.specs.Views.{listed, program_bytes}
use Rattle.pef_reloc.proofs.program.Program.flat.Given as goal

abbrev pub invariant-loop-instr : goal.invariant-loop-instr
invariant-loop-instr l = repeat_free (listed l.instrs) ≡ repeat_free (instrs_of (program_bytes l.self))

abbrev pub decreases-loop-instr : goal.decreases-loop-instr
decreases-loop-instr l = length (listed l.instrs)
