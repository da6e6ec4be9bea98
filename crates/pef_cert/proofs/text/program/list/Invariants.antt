use Rattle.std.proofs.Common.{◌≡◌, ◌++◌, length}
use Rattle.pef_reloc.specs.Unrolled.{instrs_of}
use Rattle.pef_reloc.specs.Views.{listed, program_bytes}
use Rattle.pef_cert.proofs.text.program.list.Given as goal

-- the instructions so far and those that are left are those of the program
abbrev pub invariant-loop-instr : goal.invariant-loop-instr
invariant-loop-instr l = l.instrs.items ++ listed l.walk ≡ instrs_of (program_bytes l.program)

abbrev pub decreases-loop-instr : goal.decreases-loop-instr
decreases-loop-instr l = length (listed l.walk)
