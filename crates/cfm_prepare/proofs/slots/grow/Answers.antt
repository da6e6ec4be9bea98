-- One slot more changes nothing.
use Rattle.std.proofs.Common.{◌≡◌, ◌++◌, ◌∷◌, [], None, ap, ◌∙◌}
use Rattle.cfm_prepare.specs.Kept.Slots.{slot_at}
use Rattle.cfm_prepare.proofs.SlotLemmas.{slot-grown}
use Rattle.cfm_prepare.proofs.slots.grow.Goals as goal

pub loop-slots-preserved : goal.loop-slots-preserved
loop-slots-preserved c = λ p.
    let at = c.loop-slots in
    let items : c.push.new.self.items ≡ at.slots.items ++ None ∷ [] = c.in_ok-push.ensures.items in
    ap (λ slots. slot_at slots p) items ∙ slot-grown at.slots.items p ∙ at.invariant p
