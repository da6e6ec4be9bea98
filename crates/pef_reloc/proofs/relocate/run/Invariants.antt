use Rattle.std.proofs.Common.{◌≤◌, ◌-◌, length}
use Rattle.pef_reloc.specs.Kept.Machines.{known}
use Rattle.pef_reloc.proofs.Applying.{ApplyLeft}
use Rattle.pef_reloc.proofs.relocate.run.Given as goal

abbrev pub invariant-loop-at : goal.invariant-loop-at
invariant-loop-at l = record {
  inside : l.at ≤ length l.bytes;
  left : ApplyLeft l.bytes (known l.targets) l.at l.machine l.memory l.fn.memory;
}

abbrev pub decreases-loop-at : goal.decreases-loop-at
decreases-loop-at l = length l.bytes - l.at
