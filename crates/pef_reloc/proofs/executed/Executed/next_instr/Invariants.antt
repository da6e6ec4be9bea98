-- What isn't given yet is left.
use Rattle.std.proofs.Common.{◌≡◌, ◌+◌, ◌*◌, ◌^◌, length}
use Rattle.pef_reloc.specs.Kept.Additions.{executed_left}
use Rattle.pef_reloc.specs.Views.{listed}
use Rattle.pef_reloc.proofs.executed.Executed.next_instr.Given as goal

abbrev pub invariant-blocks-2 : goal.invariant-blocks-2
invariant-blocks-2 l = executed_left l.self ≡ executed_left l.fn.self

abbrev pub decreases-blocks-2 : goal.decreases-blocks-2
decreases-blocks-2 l = length (listed l.self.program) * 2 ^ 32 + l.self.passes
