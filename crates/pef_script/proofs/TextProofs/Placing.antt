-- New fixups in their places: they fit, and are in the section, if they don't overlap others.
use Rattle.std.proofs.Common.{◌≡◌, ℕ, suc, ◌+◌, ◌*◌, ◌≤◌, ◌⊎◌, Bool, true, false, ◌&&◌, ◌||◌, nat_le, List, [], ◌∷◌, length, refl, inl, inr, arith}
use Rattle.std.specs.List.{AllByRecursion, list_any}
use Rattle.std.proofs.lemmas.Bool.{le-leb, and_from, and_parts}
use Rattle.std.proofs.lemmas.Bool.Decides.{leb_tells, nat_tests}
use Rattle.pef_reloc.specs.declared.fixup.Base.{Base}
use Rattle.pef_reloc.specs.declared.fixup.Fixup.{Fixup}
use Rattle.pef_reloc.specs.Fixups.{fixup_fits, fixups_end, fixups_from}
use Rattle.pef_script.specs.Text.Contents.{fixup_of, meets, overlaps, placed}
use Rattle.pef_script.specs.Text.Kept.Sections.{AreApart}

-- if it is false that one test or the other holds, neither does
pub both_unmet : (a b : Bool) → (a || b) ≡ false → (a ≡ false) × (b ≡ false)
both_unmet true b unmet = absurd (cc)
both_unmet false b unmet = (refl, unmet)

-- a fixup that overlaps no word is before or after all of them
pub clear_of : (offset count : ℕ) (fixup : Fixup) → meets offset count fixup ≡ false → (fixup.offset + 4 ≤ offset) ⊎ (offset + 4 * count ≤ fixup.offset)
clear_of offset count fixup unmet = grind (arith, nat_tests)

pub length-placed : (fixups : List Fixup) (new : Fixup) → length (placed fixups new) ≡ length fixups + 1
length-placed [] new = refl
length-placed (f ∷ fixups) new =
    elim (leb_tells (suc new.offset) f.offset) [
      | inl before ↦ rw before.0 (omega arith)
      | inr after ↦ rw after.0 (let others = length-placed fixups new in omega (arith, others))
    ]

pub all-placed : (P : Fixup → Type 0) (fixups : List Fixup) (new : Fixup) → AllByRecursion P fixups → P new → AllByRecursion P (placed fixups new)
all-placed P [] new all here = (here, tt)
all-placed P (f ∷ fixups) new all here =
    elim (leb_tells (suc new.offset) f.offset) [
      | inl before ↦ rw before.0 (here, all)
      | inr after ↦ rw after.0 (all.0, all-placed P fixups new all.1 here)
    ]

-- they are apart
pub fixups_from-placed : (end : ℕ) (fixups : List Fixup) (new : Fixup) → fixups_from end fixups ≡ true → end ≤ new.offset → fixup_fits new ≡ true → overlaps fixups new.offset 1 ≡ false → fixups_from end (placed fixups new) ≡ true
fixups_from-placed end [] new apart from fits free = and_from (nat_le end new.offset && fixup_fits new) true (and_from (nat_le end new.offset) (fixup_fits new) (le-leb _ _ from) fits) refl
fixups_from-placed end (f ∷ fixups) new apart from fits free =
    let parts = and_parts (nat_le end f.offset && fixup_fits f) (fixups_from (f.offset + 4) fixups) apart in
    let first = and_parts (nat_le end f.offset) (fixup_fits f) parts.0 in
    let unmet = both_unmet (meets new.offset 1 f) (overlaps fixups new.offset 1) free in
    elim (leb_tells (suc new.offset) f.offset) [
      | inl before ↦
          (let next : new.offset + 4 ≤ f.offset = elim (clear_of new.offset 1 f unmet.0) as (λ _. new.offset + 4 ≤ f.offset) [ inl h ↦ absurd (omega (arith, h, before.1)) | inr h ↦ omega (arith, h) ] in
          rw before.0 (and_from (nat_le end new.offset && fixup_fits new) (fixups_from (new.offset + 4) (f ∷ fixups)) (and_from (nat_le end new.offset) (fixup_fits new) (le-leb _ _ from) fits)
          (and_from (nat_le (new.offset + 4) f.offset && fixup_fits f) (fixups_from (f.offset + 4) fixups) (and_from (nat_le (new.offset + 4) f.offset) (fixup_fits f) (le-leb _ _ next) first.1) parts.1)))
      | inr after ↦
          (let next : f.offset + 4 ≤ new.offset = elim (clear_of new.offset 1 f unmet.0) as (λ _. f.offset + 4 ≤ new.offset) [ inl h ↦ h | inr h ↦ absurd (omega (arith, h, after.1)) ] in
          rw after.0 (and_from (nat_le end f.offset && fixup_fits f) (fixups_from (f.offset + 4) (placed fixups new)) parts.0 (fixups_from-placed (f.offset + 4) fixups new parts.1 next fits unmet.1)))
    ]

-- and end where the last of them does
pub fixups_end-placed : (end total : ℕ) (fixups : List Fixup) (new : Fixup) → fixups_end end fixups ≤ total → new.offset + 4 ≤ total → fixups_end end (placed fixups new) ≤ total
fixups_end-placed end total [] new inside here = here
fixups_end-placed end total (f ∷ fixups) new inside here =
    elim (leb_tells (suc new.offset) f.offset) [
      | inl before ↦ rw before.0 inside
      | inr after ↦ rw after.0 (fixups_end-placed (f.offset + 4) total fixups new inside here)
    ]

-- a test holds for no fixup if a weaker one holds for none
any-weaker : (p q : Fixup → Bool) (fixups : List Fixup) → ((f : Fixup) → p f ≡ false → q f ≡ false) → list_any p fixups ≡ false → list_any q fixups ≡ false
any-weaker p q [] weaker none = refl
any-weaker p q (f ∷ fixups) weaker none =
    let unmet = both_unmet (p f) (list_any p fixups) none in
    rw (weaker f unmet.0) (any-weaker p q fixups weaker unmet.1)

any-placed : (p : Fixup → Bool) (fixups : List Fixup) (new : Fixup) → list_any p fixups ≡ false → p new ≡ false → list_any p (placed fixups new) ≡ false
any-placed p [] new none here = rw here refl
any-placed p (f ∷ fixups) new none here =
    let unmet = both_unmet (p f) (list_any p fixups) none in
    elim (leb_tells (suc new.offset) f.offset) [
      | inl before ↦ rw (before.0, here) none
      | inr after ↦ rw (after.0, unmet.0) (any-placed p fixups new unmet.1 here)
    ]

-- and so are two in a row
pub apart_two : (fixups : List Fixup) (offset : ℕ) (a b : Base) → overlaps fixups offset 2 ≡ false → AreApart fixups (fixup_of offset a ∷ fixup_of (offset + 4) b ∷ [])
apart_two fixups offset a b free =
    let first = any-weaker (meets offset 2) (meets offset 1) fixups (λ f unmet. grind (arith, nat_tests)) free in
    let second = any-weaker (meets offset 2) (meets (offset + 4) 1) fixups (λ f unmet. grind (arith, nat_tests)) free in
    (first, (any-placed (meets (offset + 4) 1) fixups (fixup_of offset a) second (grind (arith, nat_tests)), tt))
