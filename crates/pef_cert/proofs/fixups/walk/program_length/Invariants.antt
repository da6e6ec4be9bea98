use Rattle.std.proofs.Common.{◌≡◌, ◌+◌, ◌*◌, ◌≤◌, drop}
use Rattle.pef_reloc.specs.Instrs.{program_length}
use Rattle.pef_cert.proofs.fixups.walk.program_length.Given as goal

abbrev pub invariant-loop-instr : goal.invariant-loop-instr
invariant-loop-instr l = record {
  small : l.length ≤ 2 * l.instr-index;
  rest : l.length + program_length (drop l.instr-index l.program) ≡ program_length l.program;
}
