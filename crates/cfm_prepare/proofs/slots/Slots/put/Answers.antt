-- The place comes last, and its slot has the fragment.
use Rattle.std.proofs.Common.{◌≡◌, ◌++◌, ◌∷◌, [], false, List, ℕ, Some, ap, subst, sym, ◌∙◌}
use Rattle.std.specs.Result.{is_err}
use Rattle.std.proofs.Math.ListN.{set}
use Rattle.cfm_prepare.specs.Fragments.{is_present}
use Rattle.cfm_prepare.specs.Kept.Slots.{AreSlots, HasRoom, Table, in_slots}
use Rattle.cfm_prepare.specs.Lists.{has}
use Rattle.cfm_prepare.specs.declared.slots.Placed.{Placed}
use Rattle.cfm_prepare.proofs.ListLemmas.{pushed-ok}
use Rattle.cfm_prepare.proofs.SlotLemmas.{put-last, put-slots, seen-present}
use Rattle.cfm_prepare.proofs.slots.Slots.put.Goals as goal

pub invariant_of-self : goal.invariant_of-self
invariant_of-self c =
    let slots = c.self.inside.slots.items in
    let order = c.self.inside.order.items in
    let p = c.args.position in
    let f : Placed = record { places = c.args.places } in
    let P : Table → Type 0 = λ t. is_present t.items p ≡ false in
    let R : Table → Type 0 = λ t. HasRoom t p in
    let none : has order p ≡ false = sym (seen-present slots order p) ∙ subst P (sym c.self.view_is) c.requires.absent in
    let room = subst R (sym c.self.view_is) c.requires.room in
    let e = c.is_err.ensures.value in
    let e' = c.if-is_err.false in
    let went : is_err c.push.result ≡ false = cc in
    let pushed : c.push.new.self.items ≡ order ++ p ∷ [] = c.push.ensures.items ∙ pushed-ok c.push.result _ _ went in
    let Q : List ℕ → Type 0 = λ order. AreSlots (set slots p (Some f)) order in
    subst Q (sym pushed) (put-slots slots order p f c.self.invariant room.0 none)

pub returns : goal.returns
returns c =
    let slots = c.self.inside.slots.items in
    let order = c.self.inside.order.items in
    let p = c.args.position in
    let f : Placed = record { places = c.args.places } in
    let P : Table → Type 0 = λ t. is_present t.items p ≡ false in
    let R : Table → Type 0 = λ t. HasRoom t p in
    let none : has order p ≡ false = sym (seen-present slots order p) ∙ subst P (sym c.self.view_is) c.requires.absent in
    let room = subst R (sym c.self.view_is) c.requires.room in
    let e = c.is_err.ensures.value in
    let e' = c.if-is_err.false in
    let went : is_err c.push.result ≡ false = cc in
    let pushed : c.push.new.self.items ≡ order ++ p ∷ [] = c.push.ensures.items ∙ pushed-ok c.push.result _ _ went in
    rw (← c.self.view_is) (ap (in_slots (set slots p (Some f))) pushed ∙ put-last slots order p f c.self.invariant room.0 none)
