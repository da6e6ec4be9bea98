use Rattle.std.proofs.Common.{◌+◌, ◌-◌, ◌*◌, ◌≤◌, List, length}
use Rattle.pef_reloc.specs.declared.instr.Instr.{Instr}
use Rattle.pef_reloc.specs.Kept.Places.{Spans}
use Rattle.pef_reloc.specs.Kept.Walks.{MovesOn, walked}
use Rattle.pef_reloc.specs.Unrolled.{steps_from}
use Rattle.pef_reloc.proofs.WalkLemmas.{BlockWalk}
use Rattle.pef_reloc.proofs.verifying.Walk.run_block.Given as goal

abbrev pub invariant-loop-at : goal.invariant-loop-at
invariant-loop-at l = record {
  inside : l.at ≤ length l.block.bytes.now;
  ahead : l.block.from ≤ l.at;
  short : l.at ≤ l.block.to + 3;
  moves : MovesOn l.fn.self l.self (3072 * (l.at - l.block.from));
  left : (instrs : List Instr) → Spans l.block.bytes.now l.block.from instrs l.block.to → BlockWalk l.sizes (walked l.self) l.block.bytes.now l.at l.block.to (walked l.fn.self) (steps_from l.block.from instrs);
}

abbrev pub decreases-loop-at : goal.decreases-loop-at
decreases-loop-at l = l.block.to - l.at
