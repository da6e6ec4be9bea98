use Rattle.std.proofs.Common.{◌≤◌, ◌-◌, length}
use Rattle.pef_reloc.specs.Limits.{step_limit}
use Rattle.pef_reloc.proofs.Readings.{ReadLeft}
use Rattle.pef_reloc.proofs.program.Program.read.Given as goal

abbrev pub invariant-loop-at : goal.invariant-loop-at
invariant-loop-at l = record {
  inside : l.at ≤ length l.bytes;
  under : l.reader.steps ≤ step_limit;
  left : ReadLeft l.bytes l.at l.reader;
}

abbrev pub decreases-loop-at : goal.decreases-loop-at
decreases-loop-at l = length l.bytes - l.at
