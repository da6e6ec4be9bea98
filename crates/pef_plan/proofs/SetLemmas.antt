-- The change of one register changes the extension by at most 1, whatever fixups are left to make; and a row of
-- such numbers.
use Rattle.std.proofs.Common.{◌≡◌, ℕ, ◌+◌, ◌-◌, ◌%◌, ◌==◌, ◌<◌, ◌≤◌, inl, inr, Bool, true, false, ◌&&◌, nat_le, min, List, [], ◌∷◌, length, Option, None, Some, refl, ap, subst, arith}
use Rattle.std.proofs.lemmas.Bool.{lt-ltb, le-leb, and_from}
use Rattle.std.proofs.lemmas.Bool.Decides.{eqb_tells}
use Rattle.pef_reloc.specs.declared.fixup.Fixup.{Fixup}
use Rattle.pef_reloc.specs.declared.instr.Instr.TheVariants.{SmSetSectC, SmSetSectD}
use Rattle.pef_reloc.specs.Deliveries.{is_flat_instr}
use Rattle.pef_reloc.specs.Steps.{State}
use Rattle.pef_cert.specs.Labels.{Labels, class_of, classes}
use Rattle.pef_cert.specs.Minima.{least_of, plus, when}
use Rattle.pef_cert.specs.Extension.{change, extension, moved_value, offer_at}
use Rattle.pef_plan.specs.Kept.Near.{StepsOf}
use Rattle.pef_plan.specs.Kept.Rows.{ClosedOf}
use Rattle.pef_plan.specs.Runs.Tables.{number_in}
use Rattle.pef_cert.proofs.Laws.{AtMost, Moved, World, at_most-weaker, extension-away, extension-end, extension-here, far, late, moved-is, moved-near, moved-skip, near, offer-is, offer-most, skips}

-- a label at the next fixup
abbrev label_here : Labels → Fixup → List Fixup → ℕ → ℕ → ℕ
label_here l f rest c d = l.label (length (f ∷ rest)) c d

abbrev state_here : Fixup → ℕ → ℕ → ℕ → State
state_here f index c d = record { position = f.offset; import_index = index; c = c; d = d }

label_set_c : (l : Labels) (index : ℕ) (f : Fixup) (rest : List Fixup) (c e d : ℕ) → World l index (f ∷ rest) → c < classes l → e < classes l → d < classes l → label_here l f rest c d ≤ 1 + label_here l f rest e d
label_set_c l index f rest c e d w under under_e under_d =
    let from = w.numbers.of c under in
    let to = w.numbers.of e under_e in
    let other = w.numbers.of d under_d in
    let flat : is_flat_instr (SmSetSectC to.number) ≡ true = lt-ltb to.number 512 to.small in
    let step = w.feasible.0.sets (SmSetSectC to.number) (state_here f index from.number other.number) (record { position = refl; index_is = refl }) flat refl in
    let next = extension-here l f rest f.offset (class_of l.registers to.number) (class_of l.registers other.number) refl in
    let one : label_here l f rest (class_of l.registers from.number) (class_of l.registers other.number) ≤ 1 + label_here l f rest (class_of l.registers to.number) (class_of l.registers other.number) = omega (arith, step, next) in
    subst (λ (x : ℕ). label_here l f rest x d ≤ 1 + label_here l f rest e d) from.is
    (subst (λ (x : ℕ). label_here l f rest (class_of l.registers from.number) d ≤ 1 + label_here l f rest x d) to.is
    (subst (λ (x : ℕ). label_here l f rest (class_of l.registers from.number) x ≤ 1 + label_here l f rest (class_of l.registers to.number) x) other.is one))

label_set_d : (l : Labels) (index : ℕ) (f : Fixup) (rest : List Fixup) (c d e : ℕ) → World l index (f ∷ rest) → c < classes l → d < classes l → e < classes l → label_here l f rest c d ≤ 1 + label_here l f rest c e
label_set_d l index f rest c d e w under_c under under_e =
    let from = w.numbers.of d under in
    let to = w.numbers.of e under_e in
    let other = w.numbers.of c under_c in
    let flat : is_flat_instr (SmSetSectD to.number) ≡ true = lt-ltb to.number 512 to.small in
    let step = w.feasible.0.sets (SmSetSectD to.number) (state_here f index other.number from.number) (record { position = refl; index_is = refl }) flat refl in
    let next = extension-here l f rest f.offset (class_of l.registers other.number) (class_of l.registers to.number) refl in
    let one : label_here l f rest (class_of l.registers other.number) (class_of l.registers from.number) ≤ 1 + label_here l f rest (class_of l.registers other.number) (class_of l.registers to.number) = omega (arith, step, next) in
    subst (λ (x : ℕ). label_here l f rest c x ≤ 1 + label_here l f rest c e) from.is
    (subst (λ (x : ℕ). label_here l f rest c (class_of l.registers from.number) ≤ 1 + label_here l f rest c x) to.is
    (subst (λ (x : ℕ). label_here l f rest x (class_of l.registers from.number) ≤ 1 + label_here l f rest x (class_of l.registers to.number)) other.is one))

change_most : (c e : ℕ) → change c e ≤ 1
change_most c e =
    elim (eqb_tells c e) [
      | inl same ↦ rw same.0 (omega arith)
      | inr other ↦ rw other.0 (omega arith)
    ]

-- an offer to other registers is one to these for at most 1 more
offer_set_c : (l : Labels) (f : Fixup) (rest : List Fixup) (c e d x : ℕ) → offer_at l f rest e d ≡ Some x → AtMost (offer_at l f rest c d) (1 + x)
offer_set_c l f rest c e d x is =
    let o = offer-is l f rest e d x is in
    let most = change_most c o.class_c in
    at_most-weaker (offer_at l f rest c d) _ (1 + x)
    (offer-most l f rest c d o.class_c o.class_d o.skip_value o.under_c o.under_d (record { value = o.skip_value; is = o.skips_is; low = omega arith }))
    (omega (arith, most, o.is))

offer_set_d : (l : Labels) (f : Fixup) (rest : List Fixup) (c d e x : ℕ) → offer_at l f rest c e ≡ Some x → AtMost (offer_at l f rest c d) (1 + x)
offer_set_d l f rest c d e x is =
    let o = offer-is l f rest c e x is in
    let most = change_most d o.class_d in
    at_most-weaker (offer_at l f rest c d) _ (1 + x)
    (offer-most l f rest c d o.class_c o.class_d o.skip_value o.under_c o.under_d (record { value = o.skip_value; is = o.skips_is; low = omega arith }))
    (omega (arith, most, o.is))

least_low : (x : ℕ) (os : List (Option ℕ)) → least_of x os ≤ x
least_low x [] = omega arith
least_low x (None ∷ os) = least_low x os
least_low x (Some y ∷ os) = let low = least_low (min x y) os in omega (arith, low)

pub moved_far : (ahead label : ℕ) (offer : Option ℕ) → moved_value ahead label offer ≤ 2 + label
moved_far ahead label offer = least_low (2 + label) (when (nat_le 1 ahead && nat_le ahead 4096) (Some (1 + label)) ∷ when (nat_le 4 ahead && nat_le ahead 1020 && ahead % 4 == 0) offer ∷ when (nat_le 1 ahead && nat_le ahead 5116) (plus 1 offer) ∷ [])

late_low : (near_by skips_by : Bool) (label v : ℕ) → least_of (2 + label) (when near_by (Some (1 + label)) ∷ when skips_by (Some v) ∷ when true (plus 1 (Some v)) ∷ []) ≤ 1 + v
late_low true true label v = omega arith
late_low true false label v = omega arith
late_low false true label v = omega arith
late_low false false label v = omega arith

moved_late : (ahead label : ℕ) (offer : Option ℕ) (x : ℕ) → 1 ≤ ahead → ahead ≤ 5116 → AtMost offer x → moved_value ahead label offer ≤ 1 + x
moved_late ahead label offer x after before most =
    let reach : (nat_le 1 ahead && nat_le ahead 5116) ≡ true = and_from (nat_le 1 ahead) (nat_le ahead 5116) (le-leb 1 ahead after) (le-leb ahead 5116 before) in
    let low : moved_value ahead label (Some most.value) ≤ 1 + most.value = rw reach (late_low _ _ label most.value) in
    let same = ap (λ o. moved_value ahead label o) most.is in
    let less = most.low in
    omega (arith, low, same, less)

moved_set : (ahead label label' x : ℕ) (offer offer' : Option ℕ) → label ≤ 1 + label' → ((w : ℕ) → offer' ≡ Some w → AtMost offer (1 + w)) → Moved ahead label' offer' x → moved_value ahead label offer ≤ 1 + x
moved_set ahead label label' x offer offer' low partner (far e) = let most = moved_far ahead label offer in omega (arith, most, e, low)
moved_set ahead label label' x offer offer' low partner (near after before e) = let most = moved-near ahead label offer after before in omega (arith, most, e, low)
moved_set ahead label label' x offer offer' low partner (skips after before even e) = moved-skip ahead label offer (1 + x) after before even (partner x e)
moved_set ahead label label' x offer offer' low partner (late w after before e sum) =
    let most = moved_late ahead label offer (1 + w) after before (partner w e) in omega (arith, most, sum)

pub extension-set_c : (l : Labels) (index : ℕ) (fixups : List Fixup) (p c e d : ℕ) → World l index fixups → c < classes l → e < classes l → d < classes l → extension l fixups p c d ≤ 1 + extension l fixups p e d
extension-set_c l index [] p c e d w under under_e under_d = let none = extension-end l p c d in omega (arith, none)
extension-set_c l index (f ∷ rest) p c e d w under under_e under_d =
    let set = label_set_c l index f rest c e d w under under_e under_d in
    elim (eqb_tells p f.offset) [
      | inl here ↦ rw (extension-here l f rest p c d here.1, extension-here l f rest p e d here.1) set
      | inr away ↦ rw (extension-away l f rest p c d away.1, extension-away l f rest p e d away.1)
          (moved_set (f.offset - p) (label_here l f rest c d) (label_here l f rest e d) _ (offer_at l f rest c d) (offer_at l f rest e d) set (offer_set_c l f rest c e d)
          (moved-is (f.offset - p) (label_here l f rest e d) (offer_at l f rest e d)))
    ]

pub extension-set_d : (l : Labels) (index : ℕ) (fixups : List Fixup) (p c d e : ℕ) → World l index fixups → c < classes l → d < classes l → e < classes l → extension l fixups p c d ≤ 1 + extension l fixups p c e
extension-set_d l index [] p c d e w under_c under under_e = let none = extension-end l p c d in omega (arith, none)
extension-set_d l index (f ∷ rest) p c d e w under_c under under_e =
    let set = label_set_d l index f rest c d e w under_c under under_e in
    elim (eqb_tells p f.offset) [
      | inl here ↦ rw (extension-here l f rest p c d here.1, extension-here l f rest p c e here.1) set
      | inr away ↦ rw (extension-away l f rest p c d away.1, extension-away l f rest p c e away.1)
          (moved_set (f.offset - p) (label_here l f rest c d) (label_here l f rest c e) _ (offer_at l f rest c d) (offer_at l f rest c e) set (offer_set_d l f rest c d e)
          (moved-is (f.offset - p) (label_here l f rest c e) (offer_at l f rest c e)))
    ]

-- a row of such numbers with a cost added has such numbers, and is closed
pub steps-plus : (count cost : ℕ) (base row : List ℕ) → StepsOf count base → ((c d : ℕ) → c < count → d < count → number_in count row c d ≡ cost + number_in count base c d) → StepsOf count row
steps-plus count cost base row steps are = record {
  c_line = λ c e d under_c under_e under_d.
      let low = steps.c_line c e d under_c under_e under_d in
      let here = are c d under_c under_d in
      let there = are e d under_e under_d in
      omega (arith, low, here, there);
  d_line = λ c d e under_c under_d under_e.
      let low = steps.d_line c d e under_c under_d under_e in
      let here = are c d under_c under_d in
      let there = are c e under_c under_e in
      omega (arith, low, here, there);
}

pub closed-steps : (count : ℕ) (row : List ℕ) → StepsOf count row → ClosedOf count row row
closed-steps count row steps = record { below = λ c d _ _. omega arith; c_line = steps.c_line; d_line = steps.d_line; from = λ c d _ _. inl refl }
