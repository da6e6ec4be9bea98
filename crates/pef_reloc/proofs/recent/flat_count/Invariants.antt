use Rattle.std.proofs.Common.{◌+◌, ◌-◌, ◌*◌, ◌≤◌, List, length}
use Rattle.pef_reloc.specs.declared.instr.Instr.{Instr}
use Rattle.pef_reloc.specs.Kept.Places.{Spans}
use Rattle.pef_reloc.proofs.Windows.{CountLeft}
use Rattle.pef_reloc.proofs.recent.flat_count.Given as goal

abbrev pub invariant-loop-at : goal.invariant-loop-at
invariant-loop-at l = record {
  inside : l.at ≤ length l.bytes;
  passed : 2 * l.count + l.from ≤ l.at;
  few : l.count ≤ 16;
  left : (block : List Instr) → Spans l.bytes l.from block l.to → CountLeft l.bytes l.at l.to l.count block;
}

abbrev pub decreases-loop-at : goal.decreases-loop-at
decreases-loop-at l = l.to - l.at
