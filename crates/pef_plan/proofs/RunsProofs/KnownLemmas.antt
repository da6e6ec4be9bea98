-- The extension, computed from tables.
use Rattle.std.proofs.Common.{◌≡◌, ◌≢◌, ℕ, ◌+◌, ◌-◌, ◌*◌, ◌<◌, ◌≤◌, List, [], ◌∷◌, ◌++◌, length, Option, None, Some, false, true, refl, slice_index, slice_index_or, ap, ap₂, sym, ◌∙◌, subst, arith}
use Rattle.pef_reloc.specs.declared.fixup.Base.{Base}
use Rattle.pef_reloc.specs.declared.fixup.Base.TheVariants.{Section, Import}
use Rattle.pef_reloc.specs.declared.fixup.Fixup.{Fixup}
use Rattle.pef_cert.specs.Labels.{Labels, class_of, classes}
use Rattle.pef_cert.specs.Extension.{change, extension, moved_value, offer_at}
use Rattle.pef_cert.proofs.Laws.{extension-away, extension-end, extension-here, offer-kept_import, offer-kept_section}
use Rattle.pef_plan.specs.declared.runs.ahead.NextFixup.{NextFixup}
use Rattle.pef_plan.specs.declared.runs.suffix.SolvedSuffix.{SolvedSuffix}
use Rattle.pef_plan.specs.Runs.Kept.Ahead.{IsAhead, class_ahead, offer_ahead, value_ahead}
use Rattle.pef_plan.specs.Runs.Tables.{Agrees, IsRow, SameLabels, Shaped, begin_at, label_in, number_in, place_of, skip_in}
use Rattle.std.proofs.lemmas.Bool.{eqb-false, eqb-true}

pub value-end : (l : Labels) (fixups : List Fixup) (p c d : ℕ) → length fixups ≡ 0 → 0 ≡ extension l fixups p c d
value-end l [] p c d none = sym (extension-end l p c d)
value-end l (f ∷ fixups) p c d none = absurd (omega (arith, none))

-- the extension at a fixup, from its label
pub value-here : (l : Labels) (k : SolvedSuffix) (f : Fixup) (rest : List Fixup) (left p c d x : ℕ) → length (f ∷ rest) ≡ left → Agrees l k (f ∷ rest) → c < length k.registers.now + 1 → d < length k.registers.now + 1 → p ≡ f.offset → x ≡ label_in (length k.registers.now + 1) k.labels.now.rows left c d → x ≡ extension l (f ∷ rest) p c d
value-here l k f rest left p c d x count agrees under_c under_d here is =
    is ∙ ap (λ n. label_in (length k.registers.now + 1) k.labels.now.rows n c d) (sym count)
    ∙ sym (agrees.same.label_is (length (f ∷ rest)) c d (omega arith) under_c under_d)
    ∙ sym (extension-here l f rest p c d here)

-- the extension away from a fixup
pub value-away : (l : Labels) (k : SolvedSuffix) (f : Fixup) (rest : List Fixup) (left p c d x y : ℕ) (o : Option ℕ) → length (f ∷ rest) ≡ left → Agrees l k (f ∷ rest) → c < length k.registers.now + 1 → d < length k.registers.now + 1 → p ≢ f.offset → x ≡ label_in (length k.registers.now + 1) k.labels.now.rows left c d → o ≡ offer_at l f rest c d → y ≡ moved_value (f.offset - p) x o → y ≡ extension l (f ∷ rest) p c d
value-away l k f rest left p c d x y o count agrees under_c under_d away is offer value =
    let label : x ≡ l.label (length (f ∷ rest)) c d = is ∙ ap (λ n. label_in (length k.registers.now + 1) k.labels.now.rows n c d) (sym count) ∙ sym (agrees.same.label_is (length (f ∷ rest)) c d (omega arith) under_c under_d) in
    value ∙ ap₂ (moved_value (f.offset - p)) label offer ∙ sym (extension-away l f rest p c d away)

-- the least offer from the table
pub offer-section_kept : (l : Labels) (k : SolvedSuffix) (f : Fixup) (rest : List Fixup) (left c d section n y : ℕ) → length (f ∷ rest) ≡ left → Agrees l k (f ∷ rest) → c < length k.registers.now + 1 → d < length k.registers.now + 1 → f.base ≡ Section section → n ≡ change d (class_of k.registers.now section) → y ≡ skip_in k.skips.now.rows left c → Some (n + y) ≡ offer_at l f rest c d
offer-section_kept l k f rest left c d section n y count agrees under_c under_d base first second =
    let regs = agrees.same.registers_are in
    offer-kept_section l f rest c d (skip_in k.skips.now.rows (length (f ∷ rest)) c) section n y base
    (agrees.offers.0 c d (subst (λ rs. c < length rs + 1) (sym regs) under_c) (subst (λ rs. d < length rs + 1) (sym regs) under_d))
    (first ∙ ap (λ rs. change d (class_of rs section)) (sym regs))
    (second ∙ ap (λ m. skip_in k.skips.now.rows m c) (sym count))

pub offer-import_kept : (l : Labels) (k : SolvedSuffix) (f : Fixup) (rest : List Fixup) (left c d import : ℕ) → length (f ∷ rest) ≡ left → Agrees l k (f ∷ rest) → c < length k.registers.now + 1 → d < length k.registers.now + 1 → f.base ≡ Import import → None ≡ offer_at l f rest c d
offer-import_kept l k f rest left c d import count agrees under_c under_d base =
    let regs = agrees.same.registers_are in
    offer-kept_import l f rest c d (skip_in k.skips.now.rows (length (f ∷ rest)) c) import base
    (agrees.offers.0 c d (subst (λ rs. c < length rs + 1) (sym regs) under_c) (subst (λ rs. d < length rs + 1) (sym regs) under_d))

-- the least offer at the next fixup, from its table rows
offer-ahead : (l : Labels) (k : SolvedSuffix) (f : Fixup) (rest : List Fixup) (c d : ℕ) (b : Base) → Agrees l k (f ∷ rest) → c < length k.registers.now + 1 → d < length k.registers.now + 1 → f.base ≡ b → offer_ahead (class_ahead k.registers.now b) (slice_index_or k.skips.now.rows (length (f ∷ rest)) []) c d ≡ offer_at l f rest c d
offer-ahead l k f rest c d (Section s) agrees under_c under_d base =
    offer-section_kept l k f rest (length (f ∷ rest)) c d s (change d (class_of k.registers.now s)) (skip_in k.skips.now.rows (length (f ∷ rest)) c) refl agrees under_c under_d base refl refl
offer-ahead l k f rest c d (Import i) agrees under_c under_d base =
    offer-import_kept l k f rest (length (f ∷ rest)) c d i refl agrees under_c under_d base

-- the extension, from the label and the least skips at the next fixup
value-before : (l : Labels) (k : SolvedSuffix) (f : Fixup) (rest : List Fixup) (p c d label : ℕ) (a : NextFixup) → a.bytes ≡ f.offset - p → label ≡ label_in (length k.registers.now + 1) k.labels.now.rows (length (f ∷ rest)) c d → a.skips.now ≡ slice_index_or k.skips.now.rows (length (f ∷ rest)) [] → a.class ≡ class_ahead k.registers.now f.base → begin_at p (f ∷ rest) ≡ false → Agrees l k (f ∷ rest) → c < length k.registers.now + 1 → d < length k.registers.now + 1 → value_ahead a label c d ≡ extension l (f ∷ rest) p c d
value-before l k f rest p c d label a bytes is skips class away agrees under_c under_d =
    let offer : offer_ahead a.class a.skips.now c d ≡ offer_at l f rest c d = ap₂ (λ x line. offer_ahead x line c d) class skips ∙ offer-ahead l k f rest c d f.base agrees under_c under_d refl in
    value-away l k f rest (length (f ∷ rest)) p c d label (value_ahead a label c d) (offer_ahead a.class a.skips.now c d) refl agrees under_c under_d
    (λ same. eqb-false f.offset p away (sym same))
    is offer
    (ap (λ n. moved_value n label (offer_ahead a.class a.skips.now c d)) bytes)

pub value-ahead : (l : Labels) (k : SolvedSuffix) (fixups : List Fixup) (p c d label : ℕ) (a : NextFixup) → IsAhead k fixups p a → label ≡ label_in (length k.registers.now + 1) k.labels.now.rows (length fixups) c d → begin_at p fixups ≡ false → Agrees l k fixups → c < length k.registers.now + 1 → d < length k.registers.now + 1 → value_ahead a label c d ≡ extension l fixups p c d
value-ahead l k fixups p c d label a is label_is away agrees under_c under_d =
    subst (λ (fs : List Fixup). value_ahead a label c d ≡ extension l fs p c d) (sym is.parts)
    (value-before l k is.first is.others p c d label a is.bytes
    (label_is ∙ ap (λ (fs : List Fixup). label_in (length k.registers.now + 1) k.labels.now.rows (length fs) c d) is.parts)
    (is.skips ∙ ap (λ (fs : List Fixup). slice_index_or k.skips.now.rows (length fs) []) is.parts)
    is.class (subst (λ (fs : List Fixup). begin_at p fs ≡ false) is.parts away) (subst (λ (fs : List Fixup). Agrees l k fs) is.parts agrees) under_c under_d)

-- the extension past a fixup, from the one at the fixup
pub extension-past : (l : Labels) (fixups : List Fixup) (p c d : ℕ) → begin_at (p + 4) fixups ≡ true → extension l fixups (p + 8) c d ≡ 2 + extension l fixups (p + 4) c d
extension-past l [] p c d at = absurd (cc)
extension-past l (f ∷ rest) p c d at =
    let here : p + 4 ≡ f.offset = sym (eqb-true f.offset (p + 4) at) in
    let past : f.offset - (p + 8) ≡ 0 = omega (arith, here) in
    extension-away l f rest (p + 8) c d (λ same. omega (arith, here, same))
    ∙ (ap (λ n. moved_value n (l.label (length (f ∷ rest)) c d) (offer_at l f rest c d)) past
    ∙ ap (λ n. 2 + n) (sym (extension-here l f rest (p + 4) c d here)))

-- a label of a row is small
pub label_under : (k : SolvedSuffix) (left c d : ℕ) (row : List ℕ) → Shaped k left → IsRow k left row → c < length k.registers.now + 1 → d < length k.registers.now + 1 → number_in (length k.registers.now + 1) row c d ≤ 4 * left
label_under k left c d row shaped is under_c under_d =
    subst (λ (r : List ℕ). number_in (length k.registers.now + 1) r c d ≤ 4 * left) (sym is.is) (shaped.label_small left c d (omega arith) under_c under_d)

-- the same with fewer fixups left
pub same_fewer : (l : Labels) (registers : List ℕ) (labels : List (List ℕ)) (most m : ℕ) → SameLabels l registers labels most → m ≤ most → SameLabels l registers labels m
same_fewer l registers labels most m same low = record {
  registers_are = same.registers_are;
  label_is = λ left c d under. same.label_is left c d (omega (arith, under, low));
}

pub agrees-after : (l : Labels) (k : SolvedSuffix) (made left : List Fixup) → Agrees l k (made ++ left) → Agrees l k left
agrees-after l k [] left a = a
agrees-after l k (f ∷ made) left a =
    agrees-after l k made left (record {
      same = same_fewer l k.registers.now k.labels.now.rows (length (f ∷ (made ++ left))) (length (made ++ left)) a.same (omega arith);
      offers = a.offers.1;
    })

-- the same after one or more of a fixup and the others
pub agrees-left : (l : Labels) (k : SolvedSuffix) (f : Fixup) (others made left : List Fixup) → Agrees l k others → f ∷ others ≡ made ++ left → length left < length (f ∷ others) → Agrees l k left
agrees-left l k f others [] left a parts fewer = let e = ap length parts in absurd (omega (arith, e))
agrees-left l k f others (g ∷ made) left a parts fewer =
    let same : others ≡ made ++ left = cc in
    agrees-after l k made left (subst (λ (fs : List Fixup). Agrees l k fs) same a)

pub shaped_fewer : (k : SolvedSuffix) (most m : ℕ) → Shaped k most → m ≤ most → Shaped k m
shaped_fewer k most m s low = record {
  few = s.few;
  count = (let n = s.count in omega (arith, n));
  labels_wide = s.labels_wide;
  skips_wide = s.skips_wide;
  labels = (let n = s.labels in omega (arith, n));
  skips = (let n = s.skips in omega (arith, n));
  label_small = λ left c d under. s.label_small left c d (omega (arith, under, low));
  skip_small = λ left c under. s.skip_small left c (omega (arith, under, low));
}

-- a label is the extension at the position of its fixup
pub value-label : (l : Labels) (k : SolvedSuffix) (fixups : List Fixup) (p c d label : ℕ) → begin_at p fixups ≡ true → Agrees l k fixups → label ≡ label_in (length k.registers.now + 1) k.labels.now.rows (length fixups) c d → c < length k.registers.now + 1 → d < length k.registers.now + 1 → label ≡ extension l fixups p c d
value-label l k [] p c d label at agrees is under_c under_d = absurd (cc)
value-label l k (g ∷ rest) p c d label at agrees is under_c under_d =
    value-here l k g rest (length (g ∷ rest)) p c d label refl agrees under_c under_d (sym (eqb-true g.offset p at)) is

-- a row of labels is the extension right after a fixup, if the next one is there
pub near_copied : (l : Labels) (k : SolvedSuffix) (others : List Fixup) (p c d : ℕ) (row : List ℕ) → begin_at p others ≡ true → Agrees l k others → IsRow k (length others) row → c < classes l → d < classes l → slice_index row (place_of (classes l) c d) ≡ extension l others p c d
near_copied l k others p c d row at agrees is under_c under_d =
    let same : classes l ≡ length k.registers.now + 1 = ap (λ rs. length rs + 1) agrees.same.registers_are in
    value-label l k others p c d (slice_index row (place_of (classes l) c d)) at agrees
    (ap₂ (λ r n. number_in n r c d) is.is same) (omega (arith, under_c, same)) (omega (arith, under_d, same))
