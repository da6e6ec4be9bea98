-- The slot of a place has the fragment there.
use Rattle.std.proofs.Common.{sym, ap, ◌∙◌}
use Rattle.cfm_prepare.specs.Kept.Slots.{slot_at, slot_places}
use Rattle.cfm_prepare.proofs.SlotLemmas.{kept-places}
use Rattle.cfm_prepare.proofs.slots.Slots.places.Goals as goal

pub returns-in-Some : goal.returns-in-Some
returns-in-Some c =
    let slots = c.self.inside.slots.items in
    let p = c.args.position in
    let s = c.in-Some.ensures ∙ ap (λ xs. slot_at xs p) c.deref.ensures.value in
    rw (← c.self.view_is) (c.deref-in-Some.ensures.value ∙ ap slot_places s ∙ sym (kept-places slots c.self.inside.order.items p c.self.invariant))

pub returns-in-None : goal.returns-in-None
returns-in-None c =
    let slots = c.self.inside.slots.items in
    let p = c.args.position in
    let s = c.in-None.ensures ∙ ap (λ xs. slot_at xs p) c.deref.ensures.value in
    rw (← c.self.view_is) (ap slot_places s ∙ sym (kept-places slots c.self.inside.order.items p c.self.invariant))
