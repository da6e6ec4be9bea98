use Rattle.std.proofs.Common.{◌+◌, ◌-◌, ◌*◌, ◌≤◌, List, length}
use Rattle.pef_reloc.specs.declared.instr.Instr.{Instr}
use Rattle.pef_reloc.specs.Kept.Machines.{Moves, known}
use Rattle.pef_reloc.specs.Kept.Places.{Spans}
use Rattle.pef_reloc.specs.Unrolled.{steps_from}
use Rattle.pef_reloc.proofs.Blocks.{BlockLeft}
use Rattle.pef_reloc.proofs.machine.Machine.run_block.Given as goal

abbrev pub invariant-loop-at : goal.invariant-loop-at
invariant-loop-at l = record {
  inside : l.at ≤ length l.block.bytes.now;
  ahead : l.block.from ≤ l.at;
  short : l.at ≤ l.block.to + 3;
  moves : Moves l.fn.self l.self (3072 * (l.at - l.block.from));
  left : (instrs : List Instr) → Spans l.block.bytes.now l.block.from instrs l.block.to → BlockLeft (known l.targets) l.self l.memory l.block.bytes.now l.at l.block.to l.fn.self l.fn.memory (steps_from l.block.from instrs);
}

abbrev pub decreases-loop-at : goal.decreases-loop-at
decreases-loop-at l = l.block.to - l.at
