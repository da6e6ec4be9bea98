-- Lists of fixups that are built one by one, and the fixups of a list that fits.
use Rattle.std.proofs.Common.{◌≡◌, ℕ, ◌+◌, ◌≤◌, ◌<◌, Bool, true, false, List, [], ◌∷◌, ◌++◌, ◌&&◌, nat_le, length, refl, ◌∙◌, sym, arith, length-append}
use Rattle.std.proofs.lemmas.Bool.{leb-true, le-leb, and_from, and_parts}
use Rattle.pef_reloc.specs.declared.fixup.Fixup.{Fixup}
use Rattle.pef_reloc.specs.Limits.{most_fixups, offset_limit}
use Rattle.pef_reloc.specs.Fixups.{base_fits, fixup_fits, fixups_from, fixups_end, fixups_fit}

pub and_assoc : (a b c : Bool) → (a && b && c) ≡ (a && (b && c))
and_assoc true b c = refl
and_assoc false b c = refl

-- the fixups of two lists are apart if those of the first are, and those of the second are after its end
pub fixups_from-append : (end : ℕ) (fs gs : List Fixup) → fixups_from end (fs ++ gs) ≡ (fixups_from end fs && fixups_from (fixups_end end fs) gs)
fixups_from-append end [] gs = refl
fixups_from-append end (f ∷ fs) gs =
    rw (fixups_from-append (f.offset + 4) fs gs)
    (sym (and_assoc (nat_le end f.offset && fixup_fits f) (fixups_from (f.offset + 4) fs) (fixups_from (fixups_end (f.offset + 4) fs) gs)))

pub fixups_end-append : (end : ℕ) (fs gs : List Fixup) → fixups_end end (fs ++ gs) ≡ fixups_end (fixups_end end fs) gs
fixups_end-append end [] gs = refl
fixups_end-append end (f ∷ fs) gs = fixups_end-append (f.offset + 4) fs gs

-- no fixups fit
pub no_fixups_fit : fixups_fit [] ≡ true
unfolding fixups_fit
no_fixups_fit = refl

-- one more fixup at the end fits
pub fixups_fit-more : (fs : List Fixup) (f : Fixup) → fixups_fit fs ≡ true → length fs < most_fixups → fixups_end 0 fs ≤ f.offset → f.offset + 4 ≤ offset_limit → base_fits f.base ≡ true → fixups_fit (fs ++ f ∷ []) ≡ true
unfolding fixups_fit
fixups_fit-more fs f fit room after inside base =
    let parts = and_parts (nat_le (length fs) most_fixups) (fixups_from 0 fs) fit in
    let count : length (fs ++ f ∷ []) ≤ most_fixups = omega (arith, length-append fs (f ∷ [])) in
    and_from _ _ (le-leb _ _ count)
    (fixups_from-append 0 fs (f ∷ []) ∙ and_from _ _ parts.1 (and_from _ _ (and_from _ _ (le-leb _ _ after) (and_from _ _ (le-leb _ _ inside) base)) refl))

-- the facts of fixups that fit: how many there are, and how each relates to the one before it
pub record FixupsFit (fs : List Fixup) : Type 0 where
  pub count : length fs ≤ most_fixups
  pub apart : fixups_from 0 fs ≡ true

pub fixups_fit-parts : (fs : List Fixup) → fixups_fit fs ≡ true → FixupsFit fs
unfolding fixups_fit
fixups_fit-parts fs fit =
    let parts = and_parts (nat_le (length fs) most_fixups) (fixups_from 0 fs) fit in
    record { count = leb-true _ _ parts.0; apart = parts.1 }

-- the facts of the first of fixups that are apart, and of the others
pub record FirstStands (end : ℕ) (f : Fixup) (fs : List Fixup) : Type 0 where
  pub after : end ≤ f.offset
  pub inside : f.offset + 4 ≤ offset_limit
  pub base : base_fits f.base ≡ true
  pub others : fixups_from (f.offset + 4) fs ≡ true

pub fixups_from-first : (end : ℕ) (f : Fixup) (fs : List Fixup) → fixups_from end (f ∷ fs) ≡ true → FirstStands end f fs
fixups_from-first end f fs apart =
    let parts = and_parts (nat_le end f.offset && fixup_fits f) (fixups_from (f.offset + 4) fs) apart in
    let first = and_parts (nat_le end f.offset) (fixup_fits f) parts.0 in
    let second = and_parts (nat_le (f.offset + 4) offset_limit) (base_fits f.base) first.1 in
    record { after = leb-true _ _ first.0; inside = leb-true _ _ second.0; base = second.1; others = parts.1 }
