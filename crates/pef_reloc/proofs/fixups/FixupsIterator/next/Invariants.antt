-- An instruction without additions changes nothing of what is left.
use Rattle.std.proofs.Common.{◌≡◌, length}
use Rattle.pef_reloc.specs.Kept.Additions.{executed_left}
use Rattle.pef_reloc.specs.Left.{fixups_left}
use Rattle.pef_reloc.proofs.fixups.FixupsIterator.next.Given as goal

abbrev pub invariant-instrs : goal.invariant-instrs
invariant-instrs l = fixups_left l.self ≡ fixups_left l.fn.self

abbrev pub decreases-instrs : goal.decreases-instrs
decreases-instrs l = length (executed_left l.self.executed)
