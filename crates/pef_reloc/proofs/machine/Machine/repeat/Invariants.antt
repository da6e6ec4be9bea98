use Rattle.std.proofs.Common.{◌*◌, ◌^◌, List}
use Rattle.pef_reloc.specs.declared.instr.Instr.{Instr}
use Rattle.pef_reloc.specs.Kept.Machines.{Moves, known}
use Rattle.pef_reloc.specs.Kept.Places.{Spans}
use Rattle.pef_reloc.specs.Unrolled.{steps_from}
use Rattle.pef_reloc.proofs.Blocks.{PassesLeft}
use Rattle.pef_reloc.proofs.machine.Machine.repeat.Given as goal

abbrev pub invariant-passes : goal.invariant-passes
invariant-passes l = record {
  moves : Moves l.fn.self l.self (2 ^ 17 * l.counter);
  left : (instrs : List Instr) → Spans l.block.bytes.now l.block.from instrs l.block.to → PassesLeft (known l.targets) l.self l.memory l.passes l.counter l.fn.self l.fn.memory (steps_from l.block.from instrs);
}
