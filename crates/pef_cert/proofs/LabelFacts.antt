-- Feasible labels at a fixup: a label is at most the extension from everywhere, the extension is at most 2
-- more, and the change of one register changes it by at most 1.
use Rattle.std.proofs.Common.{◌≡◌, ℕ, suc, ◌+◌, ◌-◌, ◌*◌, ◌<◌, ◌≤◌, inl, inr, Bool, true, false, List, ◌∷◌, length, Option, Some, refl, ap, sym, ◌∙◌, subst, arith, length-append}
use Rattle.std.proofs.lemmas.Bool.{lt-ltb, le-leb, and_from}
use Rattle.std.proofs.lemmas.Bool.Decides.{eqb_tells}
use Rattle.pef_reloc.specs.declared.fixup.Base.{Base}
use Rattle.pef_reloc.specs.declared.fixup.Base.TheVariants.{Section, Import}
use Rattle.pef_reloc.specs.declared.fixup.Fixup.{Fixup}
use Rattle.pef_reloc.specs.declared.instr.Instr.TheVariants.{BySectD, SmSetSectC, SmSetSectD}
use Rattle.pef_reloc.specs.Deliveries.{is_flat_instr}
use Rattle.pef_reloc.specs.Steps.{State, row}
use Rattle.pef_cert.specs.Labels.{Labels, class_of, classes, has_class}
use Rattle.pef_cert.specs.Minima.{least_below, plus}
use Rattle.pef_cert.specs.Extension.{change, extension, moved_value, offer_at, skip, skip_more, skips_at}
use Rattle.pef_cert.specs.Feasible.{FeasibleAt}
use Rattle.pef_cert.proofs.ClassLemmas.{Numbers, RegisteredBase}
use Rattle.pef_cert.proofs.ExtensionLemmas.{Skipped, extension-away, extension-here, length-row, skip-is, skips-is}
use Rattle.pef_cert.proofs.MinimaLemmas.{AtMost, Moved, at_most-weaker, far, late, least_below-is, least_below-most, moved-far, moved-is, moved-late, moved-near, moved-skip, near, plus-is, plus-most, skips}

-- labels at a fixup if all is in order
pub record Stands (l : Labels) (index : ℕ) (f : Fixup) (rest : List Fixup) : Type 0 where
  pub numbers : Numbers l
  pub here : RegisteredBase l.registers f.base
  pub feasible : FeasibleAt l index f rest

-- a state at the fixup
abbrev state_at : Fixup → ℕ → ℕ → ℕ → State
state_at f index c d = record { position = f.offset; import_index = index; c = c; d = d }

abbrev label_here : Labels → Fixup → List Fixup → ℕ → ℕ → ℕ
label_here l f rest c d = l.label (length (f ∷ rest)) c d

-- the change of a register costs at most 1
pub label-set_c : (l : Labels) (index : ℕ) (f : Fixup) (rest : List Fixup) (c c' d : ℕ) → Stands l index f rest → c < classes l → c' < classes l → d < classes l → label_here l f rest c d ≤ 1 + label_here l f rest c' d
label-set_c l index f rest c c' d stands under under' under_d =
    let from = stands.numbers.of c under in
    let to = stands.numbers.of c' under' in
    let other = stands.numbers.of d under_d in
    let s : State = state_at f index from.number other.number in
    let flat : is_flat_instr (SmSetSectC to.number) ≡ true = lt-ltb to.number 512 to.small in
    let step = stands.feasible.sets (SmSetSectC to.number) s (record { position = refl; index_is = refl }) flat refl in
    let next = extension-here l f rest f.offset (class_of l.registers to.number) (class_of l.registers other.number) refl in
    let one : label_here l f rest (class_of l.registers from.number) (class_of l.registers other.number) ≤ 1 + label_here l f rest (class_of l.registers to.number) (class_of l.registers other.number) = omega (arith, step, next) in
    subst (λ (x : ℕ). label_here l f rest x d ≤ 1 + label_here l f rest c' d) from.is
    (subst (λ (x : ℕ). label_here l f rest (class_of l.registers from.number) d ≤ 1 + label_here l f rest x d) to.is
    (subst (λ (x : ℕ). label_here l f rest (class_of l.registers from.number) x ≤ 1 + label_here l f rest (class_of l.registers to.number) x) other.is one))

pub label-set_d : (l : Labels) (index : ℕ) (f : Fixup) (rest : List Fixup) (c d d' : ℕ) → Stands l index f rest → c < classes l → d < classes l → d' < classes l → label_here l f rest c d ≤ 1 + label_here l f rest c d'
label-set_d l index f rest c d d' stands under_c under under' =
    let from = stands.numbers.of d under in
    let to = stands.numbers.of d' under' in
    let other = stands.numbers.of c under_c in
    let s : State = state_at f index other.number from.number in
    let flat : is_flat_instr (SmSetSectD to.number) ≡ true = lt-ltb to.number 512 to.small in
    let step = stands.feasible.sets (SmSetSectD to.number) s (record { position = refl; index_is = refl }) flat refl in
    let next = extension-here l f rest f.offset (class_of l.registers other.number) (class_of l.registers to.number) refl in
    let one : label_here l f rest (class_of l.registers other.number) (class_of l.registers from.number) ≤ 1 + label_here l f rest (class_of l.registers other.number) (class_of l.registers to.number) = omega (arith, step, next) in
    subst (λ (x : ℕ). label_here l f rest c x ≤ 1 + label_here l f rest c d') from.is
    (subst (λ (x : ℕ). label_here l f rest c (class_of l.registers from.number) ≤ 1 + label_here l f rest c x) to.is
    (subst (λ (x : ℕ). label_here l f rest x (class_of l.registers from.number) ≤ 1 + label_here l f rest x (class_of l.registers to.number)) other.is one))

-- as many as differ
label-change : (l : Labels) (index : ℕ) (f : Fixup) (rest : List Fixup) (c d c' d' : ℕ) → Stands l index f rest → c < classes l → d < classes l → c' < classes l → d' < classes l → label_here l f rest c d ≤ (change c c' + change d d') + label_here l f rest c' d'
label-change l index f rest c d c' d' stands under_c under_d under_c' under_d' =
    elim (eqb_tells c c') [
      | inl same ↦ elim (eqb_tells d d') [
        | inl equal ↦
            (let e = ap (λ x. label_here l f rest x d) same.1 ∙ ap (λ x. label_here l f rest c' x) equal.1 in
            rw (same.0, equal.0) (omega (arith, e)))
        | inr apart ↦
            (let e = ap (λ x. label_here l f rest x d) same.1 in
            let two = label-set_d l index f rest c' d d' stands under_c' under_d under_d' in
            rw (same.0, apart.0) (omega (arith, e, two)))
      ]
      | inr other ↦ elim (eqb_tells d d') [
        | inl equal ↦
            (let e = ap (λ x. label_here l f rest c' x) equal.1 in
            let one = label-set_c l index f rest c c' d stands under_c under_c' under_d in
            rw (other.0, equal.0) (omega (arith, e, one)))
        | inr apart ↦
            (let one = label-set_c l index f rest c c' d stands under_c under_c' under_d in
            let two = label-set_d l index f rest c' d d' stands under_c' under_d under_d' in
            rw (other.0, apart.0) (omega (arith, one, two)))
      ]
    ]

-- the section of a class that a word has
pub base_counts : (l : Labels) (b : Base) (class : ℕ) → RegisteredBase l.registers b → has_class l.registers class b ≡ true → (k : ℕ) × (class_of l.registers k ≡ class) × (class < length l.registers)
base_counts l (Section k) class here has =
    elim (eqb_tells (class_of l.registers k) class) [
      | inl same ↦ (k, same.1, omega (arith, here, same.1))
      | inr other ↦ (let wrong : true ≡ false = sym has ∙ other.0 in absurd (cc))
    ]
base_counts l (Import k) class here has = absurd (cc)

pub skip_has : (b : Bool) (one : ℕ) (more : Option ℕ) (x : ℕ) → skip_more b one more ≡ Some x → b ≡ true
skip_has true one more x e = refl
skip_has false one more x e = absurd (cc)

skipped-label : (l : Labels) (index : ℕ) (f : Fixup) (rest : List Fixup) (c d k x : ℕ) → Stands l index f rest → c < classes l → class_of l.registers k ≡ d → Skipped l 63 f.offset c d k (f ∷ rest) x → label_here l f rest c d ≤ x
skipped-label l index f rest c d k x stands under of skipped =
    let other = stands.numbers.of c under in
    let s : State = state_at f index other.number k in
    let few = skipped.under in
    let flat : is_flat_instr (BySectD (suc skipped.count)) ≡ true = and_from _ _ (le-leb 1 (suc skipped.count) (omega arith)) (le-leb (suc skipped.count) 512 (omega arith)) in
    let shorter : length skipped.left < length (f ∷ rest) = omega (arith, ap length skipped.words ∙ length-append (row (suc skipped.count) f.offset 4 (Section k)) skipped.left, length-row (suc skipped.count) f.offset 4 (Section k)) in
    let step = stands.feasible.adds (BySectD (suc skipped.count)) s skipped.left (record { position = refl; index_is = refl }) flat (record { is = skipped.words }) shorter in
    let one : label_here l f rest (class_of l.registers other.number) (class_of l.registers k) ≤ 1 + extension l skipped.left (f.offset + 4 * suc skipped.count) (class_of l.registers other.number) (class_of l.registers k) = step in
    let two = subst (λ (y : ℕ). label_here l f rest y (class_of l.registers k) ≤ 1 + extension l skipped.left (f.offset + 4 * suc skipped.count) y (class_of l.registers k)) other.is one in
    let three = subst (λ (y : ℕ). label_here l f rest c y ≤ 1 + extension l skipped.left (f.offset + 4 * suc skipped.count) c y) of two in
    omega (arith, three, skipped.is)

-- a label is at most S
label-skip : (l : Labels) (index : ℕ) (f : Fixup) (rest : List Fixup) (c d x : ℕ) → Stands l index f rest → c < classes l → skips_at l f rest c d ≡ Some x → label_here l f rest c d ≤ x
label-skip l index f rest c d x stands under e =
    let has = skip_has (has_class l.registers d f.base) (1 + extension l rest (f.offset + 4) c d) (skip l 62 (f.offset + 4) c d rest) x (sym (skips-is l f rest c d) ∙ e) in
    let base = base_counts l f.base d stands.here has in
    skipped-label l index f rest c d base.0 x stands under base.1 (skip-is l 63 f.offset c d base.0 x (f ∷ rest) base.1 base.2 e)

-- the parts of S*
pub record Offered (l : Labels) (f : Fixup) (rest : List Fixup) (c d x : ℕ) : Type 0 where
  pub class_c : ℕ
  pub class_d : ℕ
  pub under_c : class_c < classes l
  pub under_d : class_d < classes l
  pub skip_value : ℕ
  pub skips_is : skips_at l f rest class_c class_d ≡ Some skip_value
  pub is : x ≡ (change c class_c + change d class_d) + skip_value

pub offer-is : (l : Labels) (f : Fixup) (rest : List Fixup) (c d x : ℕ) → offer_at l f rest c d ≡ Some x → Offered l f rest c d x
offer-is l f rest c d x e =
    let outer = least_below-is (classes l) (λ c'. least_below (classes l) (λ d'. plus (change c c' + change d d') (skips_at l f rest c' d'))) x e in
    let inner = least_below-is (classes l) (λ d'. plus (change c outer.at + change d d') (skips_at l f rest outer.at d')) x outer.is in
    let sum = plus-is (change c outer.at + change d inner.at) (skips_at l f rest outer.at inner.at) x inner.is in
    record {
      class_c = outer.at;
      class_d = inner.at;
      under_c = outer.under;
      under_d = inner.under;
      skip_value = sum.value;
      skips_is = sum.is;
      is = sum.sum;
    }

pub offer-most : (l : Labels) (f : Fixup) (rest : List Fixup) (c d c' d' x : ℕ) → c' < classes l → d' < classes l → AtMost (skips_at l f rest c' d') x → AtMost (offer_at l f rest c d) ((change c c' + change d d') + x)
offer-most l f rest c d c' d' x under_c under_d m =
    least_below-most (classes l) (λ a. least_below (classes l) (λ b. plus (change c a + change d b) (skips_at l f rest a b))) c' _ under_c
    (least_below-most (classes l) (λ b. plus (change c c' + change d b) (skips_at l f rest c' b)) d' _ under_d
    (plus-most (change c c' + change d d') (skips_at l f rest c' d') x m))

-- a label is at most S*
pub label-offer : (l : Labels) (index : ℕ) (f : Fixup) (rest : List Fixup) (c d x : ℕ) → Stands l index f rest → c < classes l → d < classes l → offer_at l f rest c d ≡ Some x → label_here l f rest c d ≤ x
label-offer l index f rest c d x stands under_c under_d e =
    let o = offer-is l f rest c d x e in
    let there = label-skip l index f rest o.class_c o.class_d o.skip_value stands o.under_c o.skips_is in
    let changes = label-change l index f rest c d o.class_c o.class_d stands under_c under_d o.under_c o.under_d in
    omega (arith, there, changes, o.is)

label-moved : (l : Labels) (index : ℕ) (f : Fixup) (rest : List Fixup) (c d ahead x : ℕ) → Stands l index f rest → c < classes l → d < classes l → Moved ahead (label_here l f rest c d) (offer_at l f rest c d) x → label_here l f rest c d ≤ x
label-moved l index f rest c d ahead x stands under_c under_d (far e) = omega (arith, e)
label-moved l index f rest c d ahead x stands under_c under_d (near after before e) = omega (arith, e)
label-moved l index f rest c d ahead x stands under_c under_d (skips after before even e) = label-offer l index f rest c d x stands under_c under_d e
label-moved l index f rest c d ahead x stands under_c under_d (late w after before e sum) =
    let low = label-offer l index f rest c d w stands under_c under_d e in omega (arith, low, sum)

-- a label is at most the extension from every position
pub label-extension : (l : Labels) (index : ℕ) (f : Fixup) (rest : List Fixup) (p c d : ℕ) → Stands l index f rest → c < classes l → d < classes l → label_here l f rest c d ≤ extension l (f ∷ rest) p c d
label-extension l index f rest p c d stands under_c under_d =
    elim (eqb_tells p f.offset) [
      | inl here ↦ rw (extension-here l f rest p c d here.1) (omega arith)
      | inr away ↦ rw (extension-away l f rest p c d away.1) (label-moved l index f rest c d (f.offset - p) _ stands under_c under_d (moved-is (f.offset - p) (label_here l f rest c d) (offer_at l f rest c d)))
    ]

-- which is at most 2 more
pub extension-label : (l : Labels) (f : Fixup) (rest : List Fixup) (p c d : ℕ) → extension l (f ∷ rest) p c d ≤ 2 + label_here l f rest c d
extension-label l f rest p c d =
    elim (eqb_tells p f.offset) [
      | inl here ↦ rw (extension-here l f rest p c d here.1) (omega arith)
      | inr away ↦ rw (extension-away l f rest p c d away.1) (moved-far (f.offset - p) (label_here l f rest c d) (offer_at l f rest c d))
    ]

-- the change of a register counts at most 1
pub change_most : (c c' : ℕ) → change c c' ≤ 1
change_most c c' =
    elim (eqb_tells c c') [
      | inl same ↦ rw same.0 (omega arith)
      | inr other ↦ rw other.0 (omega arith)
    ]

-- an offer to other registers is one to these for at most 1 more
offer-set_c : (l : Labels) (f : Fixup) (rest : List Fixup) (c c' d x : ℕ) → offer_at l f rest c' d ≡ Some x → AtMost (offer_at l f rest c d) (1 + x)
offer-set_c l f rest c c' d x e =
    let o = offer-is l f rest c' d x e in
    let most = change_most c o.class_c in
    at_most-weaker (offer_at l f rest c d) _ (1 + x)
    (offer-most l f rest c d o.class_c o.class_d o.skip_value o.under_c o.under_d (record { value = o.skip_value; is = o.skips_is; low = omega arith }))
    (omega (arith, most, o.is))

offer-set_d : (l : Labels) (f : Fixup) (rest : List Fixup) (c d d' x : ℕ) → offer_at l f rest c d' ≡ Some x → AtMost (offer_at l f rest c d) (1 + x)
offer-set_d l f rest c d d' x e =
    let o = offer-is l f rest c d' x e in
    let most = change_most d o.class_d in
    at_most-weaker (offer_at l f rest c d) _ (1 + x)
    (offer-most l f rest c d o.class_c o.class_d o.skip_value o.under_c o.under_d (record { value = o.skip_value; is = o.skips_is; low = omega arith }))
    (omega (arith, most, o.is))

moved-set : (ahead label label' x : ℕ) (offer offer' : Option ℕ) → label ≤ 1 + label' → ((w : ℕ) → offer' ≡ Some w → AtMost offer (1 + w)) → Moved ahead label' offer' x → moved_value ahead label offer ≤ 1 + x
moved-set ahead label label' x offer offer' low partner (far e) = let most = moved-far ahead label offer in omega (arith, most, e)
moved-set ahead label label' x offer offer' low partner (near after before e) = let most = moved-near ahead label offer after before in omega (arith, most, e)
moved-set ahead label label' x offer offer' low partner (skips after before even e) = moved-skip ahead label offer (1 + x) after before even (partner x e)
moved-set ahead label label' x offer offer' low partner (late w after before e sum) =
    let most = moved-late ahead label offer (1 + w) after before (partner w e) in omega (arith, most, sum)

-- the change of a register changes the extension by at most 1
pub extension-set_c : (l : Labels) (index : ℕ) (f : Fixup) (rest : List Fixup) (p c c' d : ℕ) → Stands l index f rest → c < classes l → c' < classes l → d < classes l → extension l (f ∷ rest) p c d ≤ 1 + extension l (f ∷ rest) p c' d
extension-set_c l index f rest p c c' d stands under under' under_d =
    let set = label-set_c l index f rest c c' d stands under under' under_d in
    elim (eqb_tells p f.offset) [
      | inl here ↦ rw (extension-here l f rest p c d here.1, extension-here l f rest p c' d here.1) set
      | inr away ↦ rw (extension-away l f rest p c d away.1, extension-away l f rest p c' d away.1)
          (moved-set (f.offset - p) (label_here l f rest c d) (label_here l f rest c' d) _ (offer_at l f rest c d) (offer_at l f rest c' d) set (offer-set_c l f rest c c' d)
          (moved-is (f.offset - p) (label_here l f rest c' d) (offer_at l f rest c' d)))
    ]

pub extension-set_d : (l : Labels) (index : ℕ) (f : Fixup) (rest : List Fixup) (p c d d' : ℕ) → Stands l index f rest → c < classes l → d < classes l → d' < classes l → extension l (f ∷ rest) p c d ≤ 1 + extension l (f ∷ rest) p c d'
extension-set_d l index f rest p c d d' stands under_c under under' =
    let set = label-set_d l index f rest c d d' stands under_c under under' in
    elim (eqb_tells p f.offset) [
      | inl here ↦ rw (extension-here l f rest p c d here.1, extension-here l f rest p c d' here.1) set
      | inr away ↦ rw (extension-away l f rest p c d away.1, extension-away l f rest p c d' away.1)
          (moved-set (f.offset - p) (label_here l f rest c d) (label_here l f rest c d') _ (offer_at l f rest c d) (offer_at l f rest c d') set (offer-set_d l f rest c d d')
          (moved-is (f.offset - p) (label_here l f rest c d') (offer_at l f rest c d')))
    ]
