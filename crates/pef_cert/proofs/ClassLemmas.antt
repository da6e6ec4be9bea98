-- The classes of sections: each has a small number.
use Rattle.std.proofs.Common.{◌≡◌, ◌≢◌, ℕ, zero, suc, ◌<◌, ◌≤◌, ◌⊎◌, inl, inr, Bool, true, false, ◌||◌, ◌==◌, nat_lt, List, [], ◌∷◌, length, refl, ap, sym, ◌∙◌, subst, arith, slice_index, eq-eqb}
use Rattle.std.specs.List.{AllByRecursion}
use Rattle.std.proofs.lemmas.Bool.{and_parts, false_from_ne_true, ltb-true, ne_eqb, or_right}
use Rattle.std.proofs.lemmas.Bool.Decides.{eqb_tells}
use Rattle.pef_reloc.specs.declared.fixup.Base.{Base}
use Rattle.pef_reloc.specs.declared.fixup.Base.TheVariants.{Section, Import}
use Rattle.pef_reloc.specs.declared.fixup.Fixup.{Fixup}
use Rattle.pef_reloc.specs.Deliveries.{is_section, uses_section}
use Rattle.pef_reloc.specs.Fixups.{fixups_fit}
use Rattle.pef_reloc.specs.Limits.{most_sections}
use Rattle.pef_reloc.proofs.Laws.{used_section-below}
use Rattle.pef_words.proofs.Laws.Numbers.{below_or}
use Rattle.pef_cert.specs.Labels.{Labels, class_of, classes}
use Rattle.pef_labels.specs.Rising.{above_all}
use Rattle.pef_cert.specs.Valid.{RegistersOf, is_among, rises}

-- a class is at most the number of registers
pub class_of-most : (rs : List ℕ) (k : ℕ) → class_of rs k ≤ length rs
class_of-most [] k = omega arith
class_of-most (r ∷ rs) k =
    elim (eqb_tells r k) [
      | inl same ↦ rw same.0 (omega arith)
      | inr other ↦ rw other.0 (let low = class_of-most rs k in omega (arith, low))
    ]

pub class_of-below : (l : Labels) (k : ℕ) → class_of l.registers k < classes l
class_of-below l k = omega (arith, class_of-most l.registers k)

-- a section that counts has a class of its own
pub class_of-same : (rs : List ℕ) (j k : ℕ) → class_of rs j ≡ class_of rs k → class_of rs k < length rs → j ≡ k
class_of-same [] j k e under = absurd (omega arith)
class_of-same (r ∷ rs) j k e under =
    elim (eqb_tells r j) [
      | inl here ↦ elim (eqb_tells r k) [
        | inl there ↦ sym here.1 ∙ there.1
        | inr other ↦ (let z : 0 ≡ suc (class_of rs k) = rw (here.0, other.0) at e in absurd (cc))
      ]
      | inr apart ↦ elim (eqb_tells r k) [
        | inl there ↦ (let z : suc (class_of rs j) ≡ 0 = rw (apart.0, there.0) at e in absurd (cc))
        | inr other ↦
            (let z : suc (class_of rs j) ≡ suc (class_of rs k) = rw (apart.0, other.0) at e in
            let u : suc (class_of rs k) < suc (length rs) = rw other.0 at under in
            class_of-same rs j k (omega (arith, z)) (omega (arith, u)))
      ]
    ]

-- a section isn't of the class of another register
pub class_of-apart : (rs : List ℕ) (i k : ℕ) → i < length rs → slice_index rs i ≢ k → class_of rs k ≢ i
class_of-apart [] i k under apart e = absurd (omega arith)
class_of-apart (r ∷ rs) zero k under apart e =
    let z : suc (class_of rs k) ≡ 0 = rw (ne_eqb r k apart) at e in absurd (cc)
class_of-apart (r ∷ rs) (suc i) k under apart e =
    elim (eqb_tells r k) [
      | inl same ↦ (let z : 0 ≡ suc i = rw same.0 at e in absurd (cc))
      | inr other ↦ (let z : suc (class_of rs k) ≡ suc i = rw other.0 at e in class_of-apart rs i k (omega arith) apart (omega (arith, z)))
    ]

-- the class of a section that counts, and of one that doesn't
pub class_of-among : (rs : List ℕ) (k : ℕ) → is_among rs k ≡ true → class_of rs k < length rs
class_of-among [] k is = absurd (cc)
class_of-among (r ∷ rs) k is =
    elim (eqb_tells r k) [
      | inl same ↦ rw same.0 (omega arith)
      | inr other ↦ rw other.0 (let among : is_among rs k ≡ true = rw other.0 at is in let low = class_of-among rs k among in omega (arith, low))
    ]

pub class_of-other : (rs : List ℕ) (k : ℕ) → is_among rs k ≡ false → class_of rs k ≡ length rs
class_of-other [] k is = refl
class_of-other (r ∷ rs) k is =
    elim (eqb_tells r k) [
      | inl same ↦ (let no : true ≡ false = rw same.0 at is in absurd (cc))
      | inr other ↦ rw other.0 (let among : is_among rs k ≡ false = rw other.0 at is in ap suc (class_of-other rs k among))
    ]

-- the number at a place of a rising list
above-index : (low : ℕ) (rs : List ℕ) (i : ℕ) → above_all low rs ≡ true → i < length rs → low < slice_index rs i
above-index low [] i above under = absurd (omega arith)
above-index low (r ∷ rs) zero above under = ltb-true low r (and_parts (nat_lt low r) (above_all r rs) above).0
above-index low (r ∷ rs) (suc i) above under =
    let both = and_parts (nat_lt low r) (above_all r rs) above in
    let first = ltb-true low r both.0 in
    let later = above-index r rs i both.1 (omega arith) in
    omega (arith, first, later)

above_rises : (low : ℕ) (rs : List ℕ) → above_all low rs ≡ true → rises rs ≡ true
above_rises low [] above = refl
above_rises low (r ∷ rs) above = (and_parts (nat_lt low r) (above_all r rs) above).1

-- the class of the section at a place of a rising list is that place
pub class_of-index : (rs : List ℕ) (i : ℕ) → rises rs ≡ true → i < length rs → class_of rs (slice_index rs i) ≡ i
class_of-index [] i up under = absurd (omega arith)
class_of-index (r ∷ rs) zero up under = rw (eq-eqb r r refl) refl
class_of-index (r ∷ rs) (suc i) up under =
    let low = above-index r rs i up (omega arith) in
    let apart : r ≢ slice_index rs i = omega (arith, low) in
    rw (ne_eqb r (slice_index rs i) apart) (ap suc (class_of-index rs i (above_rises r rs up) (omega arith)))

-- so whether a section that counts has a class can be read at that place
pub has_class-at : (rs : List ℕ) (k class : ℕ) → rises rs ≡ true → class < length rs → class_of rs k < length rs → (class == class_of rs k) ≡ (slice_index rs class == k)
has_class-at rs k class up under counts =
    let there = class_of-index rs class up under in
    elim (eqb_tells (slice_index rs class) k) [
      | inl same ↦ eq-eqb class (class_of rs k) (sym there ∙ ap (class_of rs) same.1) ∙ sym same.0
      | inr other ↦ elim (eqb_tells class (class_of rs k)) [
        | inl equal ↦ absurd (other.1 (class_of-same rs (slice_index rs class) k (there ∙ equal.1) counts))
        | inr apart ↦ apart.0 ∙ sym other.0
      ]
    ]

-- the number at a place of a list is in it
pub is_among-index : (rs : List ℕ) (i : ℕ) → i < length rs → is_among rs (slice_index rs i) ≡ true
is_among-index [] i under = absurd (omega arith)
is_among-index (r ∷ rs) zero under = rw (eq-eqb r r refl) refl
is_among-index (r ∷ rs) (suc i) under = or_right (r == slice_index rs i) (is_among rs (slice_index rs i)) (is_among-index rs i (omega arith))

-- a number with a class, small enough to be set in one halfword
pub record NumberOf (registers : List ℕ) (class : ℕ) : Type 0 where
  pub number : ℕ
  pub small : number < 512
  pub is : class_of registers number ≡ class

-- each class has one
pub record Numbers (l : Labels) : Type 0 where
  pub of : (class : ℕ) → class < classes l → NumberOf l.registers class

free_number : (fixups : List Fixup) (rs : List ℕ) → fixups_fit fixups ≡ true → RegistersOf fixups rs → NumberOf rs (length rs)
free_number fixups rs fit right = record {
  number = most_sections;
  small = omega arith;
  is = class_of-other rs most_sections (false_from_ne_true (is_among rs most_sections) (λ among. let low = used_section-below fixups most_sections fit (sym (right.used most_sections) ∙ among) in omega (arith, low)));
}

register_number : (fixups : List Fixup) (rs : List ℕ) (class : ℕ) → fixups_fit fixups ≡ true → RegistersOf fixups rs → class < length rs → NumberOf rs class
register_number fixups rs class fit right under =
    let k : ℕ = slice_index rs class in
    let low = used_section-below fixups k fit (sym (right.used k) ∙ is_among-index rs class under) in
    record { number = k; small = omega (arith, low); is = class_of-index rs class right.rising under }

numbers_at : (fixups : List Fixup) (rs : List ℕ) (class : ℕ) → fixups_fit fixups ≡ true → RegistersOf fixups rs → (class < length rs) ⊎ (class ≡ length rs) → NumberOf rs class
numbers_at fixups rs class fit right (inl under) = register_number fixups rs class fit right under
numbers_at fixups rs class fit right (inr last) = subst (λ (c : ℕ). NumberOf rs c) (sym last) (free_number fixups rs fit right)

pub numbers : (fixups : List Fixup) (l : Labels) → fixups_fit fixups ≡ true → RegistersOf fixups l.registers → Numbers l
numbers fixups l fit right = record {
  of = λ class under. numbers_at fixups l.registers class fit right (below_or class (length l.registers) under);
}

-- a base that is an import, or a section that counts
abbrev pub RegisteredBase : List ℕ → Base → Type 0
RegisteredBase registers (Section k) = class_of registers k < length registers
RegisteredBase registers (Import k) = Unit {0}

registered_first : (rs : List ℕ) (b : Base) (others : ℕ → Bool) → ((k : ℕ) → (is_section k b || others k) ≡ true → class_of rs k < length rs) → RegisteredBase rs b
registered_first rs (Section k) others count = count k (rw (eq-eqb k k refl) refl)
registered_first rs (Import k) others count = tt

registered_each : (rs : List ℕ) (fs : List Fixup) → ((k : ℕ) → uses_section fs k ≡ true → class_of rs k < length rs) → AllByRecursion (λ f. RegisteredBase rs f.base) fs
registered_each rs [] count = tt
registered_each rs (f ∷ fs) count =
    (registered_first rs f.base (uses_section fs) count, registered_each rs fs (λ k used. count k (or_right (is_section k f.base) (uses_section fs k) used)))

-- each section of some fixups counts
pub all_registered : (fixups : List Fixup) (rs : List ℕ) → RegistersOf fixups rs → AllByRecursion (λ f. RegisteredBase rs f.base) fixups
all_registered fixups rs right = registered_each rs fixups (λ k used. class_of-among rs k (right.used k ∙ used))
