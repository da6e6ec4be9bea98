-- The slot of a place has the fragment there. Without it the others stay in their order.
use Rattle.std.proofs.Common.{◌≡◌, ◌<◌, length, Option, None, Some, arith, refl, subst, sym, ap, ◌∙◌}
use Rattle.std.specs.Option.{is_some}
use Rattle.std.proofs.Math.ListN.{set}
use Rattle.std.proofs.lemmas.List.{get_or_default, get_or_past}
use Rattle.cfm_prepare.specs.Fragments.{IsTaken}
use Rattle.cfm_prepare.specs.Kept.Slots.{AreSlots, in_slots, slot_at}
use Rattle.cfm_prepare.specs.declared.slots.Placed.{Placed}
use Rattle.cfm_prepare.proofs.SlotLemmas.{kept-present, seen-same, slot-emptied, taken-out, taken-slots}
use Rattle.cfm_prepare.proofs.slots.Slots.take.Goals as goal

pub returns-then-position-len-clause-absent : goal.returns-then-position-len-clause-absent
returns-then-position-len-clause-absent c =
    let slots = c.self.inside.slots.items in
    let p = c.args.position in
    let none : slot_at slots p ≡ None = get_or_past slots p None (omega (arith, c.if-position-len.true, c.len.ensures, c.self.inside.slots.ok.0)) in
    rw (← c.self.view_is) (kept-present slots c.self.inside.order.items p c.self.invariant ∙ ap is_some none, refl)

pub returns-in_default-clause-absent : goal.returns-in_default-clause-absent
returns-in_default-clause-absent c =
    let slots = c.self.inside.slots.items in
    let order = c.self.inside.order.items in
    let p = c.args.position in
    let under : p < length slots = omega (arith, c.if-position-len.false, c.len.ensures, c.self.inside.slots.ok.0) in
    let none : slot_at slots p ≡ None = sym (c.in_default.ensures.value ∙ c.index_mut.ensures.value ∙ get_or_default slots p _ None under) in
    rw (← c.self.view_is) (
      kept-present slots order p c.self.invariant ∙ ap is_some none,
      ap (λ v. in_slots (set slots p v) order) c.take.ensures.after ∙ seen-same (set slots p None) slots order (λ q there. slot-emptied slots p q none under),
    )

pub invariant_of-self-2 : goal.invariant_of-self-2
invariant_of-self-2 c =
    let slots = c.self.inside.slots.items in
    let order = c.self.inside.order.items in
    let p = c.args.position in
    let under : p < length slots = omega (arith, c.if-position-len.false, c.len.ensures, c.self.inside.slots.ok.0) in
    let P : Option Placed → Type 0 = λ v. AreSlots (set slots p v) c.take_out.new.order.items in
    subst P (sym c.take.ensures.after) (taken-slots slots order p c.in-Some.fragment c.self.invariant under c.take_out.new.order.items c.take_out.ensures)

pub returns-clause-taken : goal.returns-clause-taken
returns-clause-taken c =
    let slots = c.self.inside.slots.items in
    let order = c.self.inside.order.items in
    let now = c.take_out.new.order.items in
    let p = c.args.position in
    let f = c.in-Some.fragment in
    let under : p < length slots = omega (arith, c.if-position-len.false, c.len.ensures, c.self.inside.slots.ok.0) in
    let here : slot_at slots p ≡ Some f = sym (c.in-Some.ensures.value ∙ c.index_mut.ensures.value ∙ get_or_default slots p _ None under) in
    let P : Option Placed → Type 0 = λ v. IsTaken (in_slots slots order) (in_slots (set slots p v) now) p f.places.items in
    rw (← c.self.view_is) (subst P (sym c.take.ensures.after) (taken-out slots order p f c.self.invariant under now c.take_out.ensures here))
