-- Those that were marked still are.
use Rattle.cfm_closure.specs.Kept.Removal.{StayMarked}
use Rattle.cfm_closure.proofs.removal.mark_needing.Given as goal

abbrev pub invariant-passes : goal.invariant-passes
invariant-passes l = StayMarked l.fn.marks l.marks
