-- Moves to a fixup: one of them leads on.
use Rattle.std.proofs.Common.{◌≡◌, ◌≢◌, ℕ, ◌+◌, ◌-◌, ◌%◌, ◌<◌, ◌≤◌, List, ◌∷◌, length, Option, None, Some, refl, ap, sym, ◌∙◌, subst, arith, eq-eqb}
use Rattle.std.specs.List.{AllByRecursion}
use Rattle.std.proofs.lemmas.Bool.{ne_eqb}
use Rattle.pef_reloc.specs.Deliveries.{index_past}
use Rattle.pef_reloc.specs.declared.fixup.Base.{Base}
use Rattle.pef_reloc.specs.declared.fixup.Base.TheVariants.{Section, Import}
use Rattle.pef_reloc.specs.declared.fixup.Fixup.{Fixup}
use Rattle.pef_cert.specs.Labels.{Labels, class_of}
use Rattle.pef_cert.specs.Extension.{OfferIs, change, extension, moved_value, offer_at, skips_at}
use Rattle.pef_cert.proofs.Laws.{Moved, World, class_of-below, extension-away, extension-here, far, label-offer, late, moved-is, moved-near, moved-skip, near, offer-import, offer-section, skips, world-first, world-next}
use Rattle.pef_plan.specs.declared.runs.suffix.SolvedSuffix.{SolvedSuffix}
use Rattle.pef_plan.specs.declared.runs.state.OpenState.{OpenState}
use Rattle.pef_plan.specs.Runs.Places.{Counts, extension_in}
use Rattle.std.proofs.lemmas.Option.{same_Some}
use Rattle.pef_plan.specs.Kept.Steps.{SkipsTo, TrackedHere, labels_tabled}
use Rattle.pef_plan.specs.Runs.Tables.{Agrees, label_in, skip_in}
use Rattle.pef_plan.proofs.StepFacts.{tracked_world}

-- the label at the fixup
abbrev here_label : SolvedSuffix → OpenState → ℕ
here_label k h = label_in (length k.registers.now + 1) k.labels.now.rows (length h.place.left.now) h.place.c h.place.d

pub label-there : (k : SolvedSuffix) (h : OpenState) (p : ℕ) → TrackedHere k h → p ≡ h.first.offset → extension (labels_tabled k) h.place.left.now p h.place.c h.place.d ≡ here_label k h
label-there k h p t at =
    ap (λ fs. extension (labels_tabled k) fs p h.place.c h.place.d) t.parts
    ∙ (extension-here (labels_tabled k) h.first h.others.now p h.place.c h.place.d at
    ∙ ap (λ fs. label_in (length k.registers.now + 1) k.labels.now.rows (length fs) h.place.c h.place.d) (sym t.parts))

-- the extension away from it is one of four
pub moved-there : (k : SolvedSuffix) (h : OpenState) → TrackedHere k h → h.place.position ≢ h.first.offset → Moved (h.first.offset - h.place.position) (here_label k h) (offer_at (labels_tabled k) h.first h.others.now h.place.c h.place.d) (extension_in (labels_tabled k) h.place)
moved-there k h t away =
    let whole = ap (λ fs. extension (labels_tabled k) fs h.place.position h.place.c h.place.d) t.parts ∙ extension-away (labels_tabled k) h.first h.others.now h.place.position h.place.c h.place.d away in
    let label = ap (λ fs. label_in (length k.registers.now + 1) k.labels.now.rows (length fs) h.place.c h.place.d) (sym t.parts) in
    let o : Option ℕ = offer_at (labels_tabled k) h.first h.others.now h.place.c h.place.d in
    let ahead : ℕ = h.first.offset - h.place.position in
    subst (λ (x : ℕ). Moved ahead (here_label k h) o x) (sym (whole ∙ ap (λ n. moved_value ahead n o) label)) (moved-is ahead (here_label k h) o)

-- a move short of the fixup, so that a skip does the rest
pub short_move : (k : SolvedSuffix) (h : OpenState) → TrackedHere k h → h.place.position ≢ h.first.offset → 4096 < h.first.offset - h.place.position → extension_in (labels_tabled k) h.place ≢ 2 + here_label k h → (1 + extension (labels_tabled k) h.place.left.now (h.place.position + (h.first.offset - h.place.position - 1020)) h.place.c h.place.d ≤ extension_in (labels_tabled k) h.place) × (h.first.offset - h.place.position ≤ 5116)
short_move k h t away beyond other = go _ refl (moved-there k h t away)
  where
    go : (x : ℕ) → extension_in (labels_tabled k) h.place ≡ x → Moved (h.first.offset - h.place.position) (here_label k h) (offer_at (labels_tabled k) h.first h.others.now h.place.c h.place.d) x → (1 + extension (labels_tabled k) h.place.left.now (h.place.position + (h.first.offset - h.place.position - 1020)) h.place.c h.place.d ≤ extension_in (labels_tabled k) h.place) × (h.first.offset - h.place.position ≤ 5116)
    go x is (far e) = absurd (other (is ∙ e))
    go x is (near after before e) = absurd (omega (arith, beyond, before))
    go x is (skips after before even e) = absurd (omega (arith, beyond, before))
    go x is (late w after before e sum) =
        let p : ℕ = h.place.position + (h.first.offset - h.place.position - 1020) in
        let ahead : h.first.offset - p ≡ 1020 = omega (arith, beyond) in
        let off : p ≢ h.first.offset = omega (arith, beyond) in
        let next = ap (λ fs. extension (labels_tabled k) fs p h.place.c h.place.d) t.parts ∙ extension-away (labels_tabled k) h.first h.others.now p h.place.c h.place.d off in
        let low = moved-skip (h.first.offset - p) (label_in (length k.registers.now + 1) k.labels.now.rows (length (h.first ∷ h.others.now)) h.place.c h.place.d) (offer_at (labels_tabled k) h.first h.others.now h.place.c h.place.d) w (omega (arith, ahead)) (omega (arith, ahead)) (eq-eqb ((h.first.offset - p) % 4) 0 (omega (arith, ahead))) (record { value = w; is = e; low = omega arith }) in
        (omega (arith, next, low, is, sum), before)

-- otherwise the extension is an offer that a skip takes
pub skips_to : (k : SolvedSuffix) (h : OpenState) → TrackedHere k h → h.place.position ≢ h.first.offset → h.first.offset - h.place.position ≤ 4096 → extension_in (labels_tabled k) h.place ≢ 2 + here_label k h → (1 ≤ h.first.offset - h.place.position → extension_in (labels_tabled k) h.place ≢ 1 + here_label k h) → SkipsTo k h
skips_to k h t away within other also = go _ refl (moved-there k h t away)
  where
    world : World (labels_tabled k) h.place.import_index (h.first ∷ h.others.now)
    world = subst (λ (fs : List Fixup). World (labels_tabled k) h.place.import_index fs) t.parts (tracked_world k h.place t.at)

    go : (x : ℕ) → extension_in (labels_tabled k) h.place ≡ x → Moved (h.first.offset - h.place.position) (here_label k h) (offer_at (labels_tabled k) h.first h.others.now h.place.c h.place.d) x → SkipsTo k h
    go x is (far e) = absurd (other (is ∙ e))
    go x is (near after before e) = absurd (also after (is ∙ e))
    go x is (skips after before even e) = record { after = after; before = before; even = even; offer = e ∙ ap Some (sym is) }
    go x is (late w after before e sum) =
        let low = label-offer (labels_tabled k) h.place.import_index h.first h.others.now h.place.c h.place.d w (world-first (labels_tabled k) h.place.import_index h.first h.others.now world) t.at.c t.at.d e in
        let label = ap (λ fs. label_in (length k.registers.now + 1) k.labels.now.rows (length fs) h.place.c h.place.d) t.parts in
        let whole = ap (λ fs. extension (labels_tabled k) fs h.place.position h.place.c h.place.d) t.parts ∙ extension-away (labels_tabled k) h.first h.others.now h.place.position h.place.c h.place.d away in
        let most = moved-near (h.first.offset - h.place.position) (label_in (length k.registers.now + 1) k.labels.now.rows (length (h.first ∷ h.others.now)) h.place.c h.place.d) (offer_at (labels_tabled k) h.first h.others.now h.place.c h.place.d) after within in
        let apart = also after in
        absurd (omega (arith, low, label, whole, most, apart, is, sum))

none_some : (o : Option ℕ) (v : ℕ) → o ≡ None → o ≡ Some v → ⊥
none_some o v none some = absurd (cc)

-- with an import at the fixup there is no offer
pub no_offer : (k : SolvedSuffix) (h : OpenState) (import : ℕ) → SkipsTo k h → h.first.base ≡ Import import → ⊥
no_offer k h import at base = none_some _ _ (offer-import (labels_tabled k) h.first h.others.now h.place.c h.place.d import base) at.offer

here_world : (k : SolvedSuffix) (h : OpenState) → TrackedHere k h → World (labels_tabled k) h.place.import_index (h.first ∷ h.others.now)
here_world k h t = subst (λ (fs : List Fixup). World (labels_tabled k) h.place.import_index fs) t.parts (tracked_world k h.place t.at)

-- the offers of the table, with any class of D
offers_here : (k : SolvedSuffix) (h : OpenState) (section d : ℕ) → TrackedHere k h → h.first.base ≡ Section section → d < length k.registers.now + 1 → offer_at (labels_tabled k) h.first h.others.now h.place.c d ≡ Some (change d (class_of k.registers.now section) + skip_in k.skips.now.rows (length (h.first ∷ h.others.now)) h.place.c)
offers_here k h section d t base under =
    let whole = subst (λ (fs : List Fixup). Agrees (labels_tabled k) k fs) t.parts t.at.agrees in
    subst (λ (b : Base). OfferIs (labels_tabled k) h.first h.others.now h.place.c d (skip_in k.skips.now.rows (length (h.first ∷ h.others.now)) h.place.c) b) base (whole.offers.0 h.place.c d t.at.c under)

-- register D is set before a skip
pub skip_set : (k : SolvedSuffix) (h : OpenState) (section class : ℕ) → TrackedHere k h → SkipsTo k h → h.place.position ≢ h.first.offset → h.first.base ≡ Section section → class ≡ class_of k.registers.now section → class ≢ h.place.d → 1 + extension (labels_tabled k) h.place.left.now h.place.position h.place.c class ≤ extension_in (labels_tabled k) h.place
skip_set k h section class t at away base of other =
    let l : Labels = labels_tabled k in
    let x : ℕ = skip_in k.skips.now.rows (length (h.first ∷ h.others.now)) h.place.c in
    let under : class < length k.registers.now + 1 = (let u = class_of-below l section in omega (arith, of, u)) in
    let mine = offers_here k h section h.place.d t base t.at.d in
    let theirs = offers_here k h section class t base under in
    let apart : h.place.d ≢ class_of k.registers.now section = λ e. other (of ∙ sym e) in
    let one : change h.place.d (class_of k.registers.now section) ≡ 1 = rw (ne_eqb h.place.d (class_of k.registers.now section) apart) refl in
    let none : change class (class_of k.registers.now section) ≡ 0 = rw (eq-eqb class (class_of k.registers.now section) of) refl in
    let worth = same_Some _ _ (sym at.offer ∙ mine) in
    let low = moved-skip (h.first.offset - h.place.position) (label_in (length k.registers.now + 1) k.labels.now.rows (length (h.first ∷ h.others.now)) h.place.c class) (offer_at l h.first h.others.now h.place.c class) x at.after at.before at.even (record { value = _; is = theirs; low = omega (arith, none) }) in
    let next = ap (λ fs. extension l fs h.place.position h.place.c class) t.parts ∙ extension-away l h.first h.others.now h.place.position h.place.c class away in
    omega (arith, worth, one, low, next)

-- the value of the skip is the extension
pub skip_taken : (k : SolvedSuffix) (h : OpenState) (section value : ℕ) → TrackedHere k h → SkipsTo k h → h.first.base ≡ Section section → class_of k.registers.now section ≡ h.place.d → class_of k.registers.now section < length k.registers.now → skips_at (labels_tabled k) h.first h.others.now h.place.c h.place.d ≡ Some value → value ≡ extension_in (labels_tabled k) h.place
skip_taken k h section value t at base of counts is =
    let l : Labels = labels_tabled k in
    let there = subst (λ (d : ℕ). skips_at l h.first h.others.now h.place.c d ≡ Some value) (sym of) is in
    let offer = offer-section l (index_past h.first.base h.place.import_index) h.first h.others.now h.place.c h.place.d section value (world-next l h.place.import_index h.first h.others.now (here_world k h t)) base counts t.at.c there in
    let none : change h.place.d (class_of k.registers.now section) ≡ 0 = rw (eq-eqb h.place.d (class_of k.registers.now section) (sym of)) refl in
    let worth = same_Some _ _ (sym at.offer ∙ offer) in
    omega (arith, worth, none)

pub counts_here : (k : SolvedSuffix) (h : OpenState) (section : ℕ) → TrackedHere k h → h.first.base ≡ Section section → class_of k.registers.now section < length k.registers.now
counts_here k h section t base = subst (λ (b : Base). Counts k.registers.now b) base (subst (λ (fs : List Fixup). AllByRecursion (λ f. Counts k.registers.now f.base) fs) t.parts t.at.counts).0
