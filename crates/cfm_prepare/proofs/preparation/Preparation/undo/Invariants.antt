-- The positions left are released.
use Rattle.std.proofs.Common.{drop, not}
use Rattle.cfm_prepare.specs.Kept.Ready.{AreReady}
use Rattle.cfm_prepare.specs.Lists.{has}
use Rattle.cfm_prepare.proofs.ReleaseLemmas.{AreGiven}
use Rattle.cfm_prepare.proofs.preparation.Preparation.undo.Given as goal

abbrev pub invariant-loop-position : goal.invariant-loop-position
invariant-loop-position l =
    AreGiven (λ p. not (has l.self.new.now p)) l.fn.present.items l.fn.memory l.present.items l.memory (drop l.position-index l.self.new.now)
    × AreReady l.memory l.present.items
