-- The slot of a place has the fragment there.
use Rattle.std.proofs.Common.{sym, ap, ◌∙◌}
use Rattle.std.specs.Option.{is_some}
use Rattle.cfm_prepare.specs.Kept.Slots.{slot_at}
use Rattle.cfm_prepare.proofs.SlotLemmas.{kept-present, seen-some}
use Rattle.cfm_prepare.proofs.slots.Slots.has.Goals as goal

pub returns : goal.returns
returns c =
    let slots = c.self.inside.slots.items in
    let p = c.args.position in
    let s = c.slot.ensures ∙ ap (λ xs. slot_at xs p) c.deref.ensures.value in
    rw (← c.self.view_is) (c.is_some.ensures ∙ seen-some c.slot.result ∙ ap is_some s ∙ sym (kept-present slots c.self.inside.order.items p c.self.invariant))
