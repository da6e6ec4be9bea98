-- What was counted and what is left are all. An instruction has at least two bytes.
use Rattle.std.proofs.Common.{◌≡◌, ◌+◌, ◌-◌, ◌*◌, ◌≤◌, length}
use Rattle.pef_reloc.specs.Kept.Counts.{additions_in}
use Rattle.pef_reloc.specs.Views.{listed}
use Rattle.pef_reloc.proofs.counting.additions_of.Given as goal

abbrev pub invariant-loop-instr : goal.invariant-loop-instr
invariant-loop-instr l = record {
  all : additions_in (listed l.block) ≡ l.count + additions_in (listed l.rest);
  bytes : l.rest.bytes ≡ l.block.bytes;
  after : l.block.at ≤ l.rest.at;
  few : l.count ≤ 512 * (l.rest.at - l.block.at);
  small : l.count ≤ 17408;
}

abbrev pub decreases-loop-instr : goal.decreases-loop-instr
decreases-loop-instr l = length (listed l.rest)
