-- The new fragments of the closure are of it, once, and absent.
use Rattle.std.proofs.Common.{◌≡◌, ℕ, List, sym, ap, subst, ◌∙◌}
use Rattle.cfm_prepare.specs.Fragments.{Present, new_among}
use Rattle.cfm_prepare.specs.Lists.{IsOnce}
use Rattle.cfm_prepare.specs.Kept.Ready.{AreAbsent}
use Rattle.cfm_prepare.proofs.BegunLemmas.{are-members}
use Rattle.cfm_prepare.proofs.FoundLemmas.{absent-new}
use Rattle.cfm_prepare.proofs.fragments.Fragments.prepare.Goals as goal

are-absent : (there : List Present) (order whole new : List ℕ) → order ≡ whole → new ≡ new_among there order → IsOnce whole → AreAbsent there new
are-absent there order whole new order_is new_is once =
    let P : List ℕ → Type 0 = λ ps. AreAbsent there ps in
    subst P (sym (new_is ∙ ap (new_among there) order_is)) (absent-new there whole once)

pub run-requires-clause-members : goal.run-requires-clause-members
run-requires-clause-members c = are-members c.self.inside.present.items c.order.result.now c.args.closure.now.order c.deref.result.now c.order.ensures.order (c.deref.ensures.value ∙ c.in_ok-new.ensures)

pub run-requires-clause-new : goal.run-requires-clause-new
run-requires-clause-new c = are-absent c.self.inside.present.items c.order.result.now c.args.closure.now.order c.deref.result.now c.order.ensures.order (c.deref.ensures.value ∙ c.in_ok-new.ensures) c.requires
