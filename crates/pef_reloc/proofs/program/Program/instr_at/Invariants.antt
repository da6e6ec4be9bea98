use Rattle.std.proofs.Common.{◌≡◌, length}
use Rattle.pef_reloc.specs.Decoding.{starting}
use Rattle.pef_reloc.specs.Unrolled.{instrs_of}
use Rattle.pef_reloc.specs.Views.{listed, program_bytes}
use Rattle.pef_reloc.proofs.program.Program.instr_at.Given as goal

abbrev pub invariant-loop-instr : goal.invariant-loop-instr
invariant-loop-instr l = starting (listed l.instrs) l.ahead ≡ starting (instrs_of (program_bytes l.self)) l.halfword

abbrev pub decreases-loop-instr : goal.decreases-loop-instr
decreases-loop-instr l = length (listed l.instrs)
