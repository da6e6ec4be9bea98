-- The slot of a number has its connection, and is empty then.
use Rattle.std.proofs.Common.{◌≡◌, List, Option, None, ap, sym, subst, ◌∙◌}
use Rattle.std.proofs.Math.ListN.{set}
use Rattle.std.proofs.lemmas.List.{get_or_default}
use Rattle.cfm_prepare.specs.Contexts.{Open}
use Rattle.cfm_prepare.specs.Kept.Connections.{AreNumbered, IsSlotOf, open_in, slot_of}
use Rattle.cfm_prepare.specs.declared.connections.Slot.{Slot}
use Rattle.cfm_prepare.proofs.ConnectionLemmas.{emptied, emptied-at, emptied-is, found-is}
use Rattle.cfm_prepare.proofs.connections.Connections.remove.Goals as goal

pub invariant_of-self : goal.invariant_of-self
invariant_of-self c =
    let slots = c.self.inside.slots.items in
    let rank = c.in_ok-rank.rank in
    let P : List Slot → Type 0 = λ xs. IsSlotOf xs c.args.number rank in
    let is : IsSlotOf slots c.args.number rank = subst P c.deref.ensures.value c.in_ok-rank.ensures.found in
    let here : c.index_mut.result.now ≡ slot_of slots rank = c.index_mut.ensures.value ∙ get_or_default slots rank _ (record { number = 0; connected = None }) is.0 in
    let after : record { number = c.index_mut.result.now.number; connected = c.take.new.self } ≡ emptied (slot_of slots rank) = ap (λ (o : Option Open). record { number = c.index_mut.result.now.number; connected = o }) c.take.ensures.after ∙ ap emptied here in
    let Q : Slot → Type 0 = λ s. AreNumbered 0 c.self.inside.given (set slots rank s) in
    subst Q (sym after) (emptied-at slots 0 c.self.inside.given rank is.0 c.self.invariant)

pub returns-clause-taken : goal.returns-clause-taken
returns-clause-taken c =
    let slots = c.self.inside.slots.items in
    let rank = c.in_ok-rank.rank in
    let P : List Slot → Type 0 = λ xs. IsSlotOf xs c.args.number rank in
    let is : IsSlotOf slots c.args.number rank = subst P c.deref.ensures.value c.in_ok-rank.ensures.found in
    let here : c.index_mut.result.now ≡ slot_of slots rank = c.index_mut.ensures.value ∙ get_or_default slots rank _ (record { number = 0; connected = None }) is.0 in
    rw (← c.self.view_is) (c.take.ensures.value ∙ ap (λ (s : Slot). s.connected) here ∙ sym (found-is slots 0 c.self.inside.given c.args.number rank c.self.invariant is))

pub returns-clause-items : goal.returns-clause-items
returns-clause-items c =
    let slots = c.self.inside.slots.items in
    let rank = c.in_ok-rank.rank in
    let P : List Slot → Type 0 = λ xs. IsSlotOf xs c.args.number rank in
    let is : IsSlotOf slots c.args.number rank = subst P c.deref.ensures.value c.in_ok-rank.ensures.found in
    let here : c.index_mut.result.now ≡ slot_of slots rank = c.index_mut.ensures.value ∙ get_or_default slots rank _ (record { number = 0; connected = None }) is.0 in
    let after : record { number = c.index_mut.result.now.number; connected = c.take.new.self } ≡ emptied (slot_of slots rank) = ap (λ (o : Option Open). record { number = c.index_mut.result.now.number; connected = o }) c.take.ensures.after ∙ ap emptied here in
    rw (← c.self.view_is) (ap (λ (s : Slot). open_in (set slots rank s)) after ∙ emptied-is slots 0 c.self.inside.given c.args.number rank c.self.invariant is)
