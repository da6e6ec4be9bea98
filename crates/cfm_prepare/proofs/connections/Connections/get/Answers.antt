-- The slot of a number has its connection.
use Rattle.std.proofs.Common.{◌≡◌, List, None, ap, sym, subst, ◌∙◌}
use Rattle.std.proofs.lemmas.List.{get_or_default}
use Rattle.cfm_prepare.specs.Kept.Connections.{IsSlotOf, slot_of}
use Rattle.cfm_prepare.specs.declared.connections.Slot.{Slot}
use Rattle.cfm_prepare.proofs.ConnectionLemmas.{found-is}
use Rattle.cfm_prepare.proofs.connections.Connections.get.Goals as goal

pub returns : goal.returns
returns c =
    let slots = c.self.inside.slots.items in
    let rank = c.in_ok-rank.rank in
    let P : List Slot → Type 0 = λ xs. IsSlotOf xs c.args.number rank in
    let is : IsSlotOf slots c.args.number rank = subst P c.deref.ensures.value c.in_ok-rank.ensures.found in
    let here : c.index.result.now ≡ slot_of slots rank = c.index.ensures ∙ get_or_default slots rank _ (record { number = 0; connected = None }) is.0 in
    rw (← c.self.view_is) (c.as_ref.ensures.value ∙ ap (λ (s : Slot). s.connected) here ∙ sym (found-is slots 0 c.self.inside.given c.args.number rank c.self.invariant is))
