-- What was taken from the limit was counted.
use Rattle.std.proofs.Common.{◌≡◌, ◌+◌, length}
use Rattle.pef_reloc.specs.Kept.Counts.{additions_in}
use Rattle.pef_reloc.specs.Kept.Executions.{begun}
use Rattle.pef_reloc.specs.Traces.{fixups_of}
use Rattle.pef_reloc.specs.Views.{listed}
use Rattle.pef_reloc.proofs.program.Program.left_after_additions.Given as goal

abbrev pub invariant-loop-at : goal.invariant-loop-at
invariant-loop-at l = l.left + length (fixups_of l.self.bytes.now) ≡ l.limit + additions_in (begun l.instrs)

abbrev pub decreases-loop-at : goal.decreases-loop-at
decreases-loop-at l = length (listed l.instrs)
