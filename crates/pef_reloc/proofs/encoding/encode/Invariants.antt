use Rattle.std.proofs.Common.{◌≡◌, ◌++◌, true, drop}
use Rattle.pef_reloc.specs.Instrs.{instrs_fit, spelled}
use Rattle.pef_reloc.proofs.encoding.encode.Given as goal

abbrev pub invariant-loop-instr : goal.invariant-loop-instr
invariant-loop-instr l = record {
  fits : instrs_fit (drop l.instr-index l.instrs) ≡ true;
  left : l.bytes.items ++ spelled (drop l.instr-index l.instrs) ≡ spelled l.instrs;
}
