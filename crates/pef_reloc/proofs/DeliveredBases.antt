-- When an instruction begins to add, the import index after it, and which bases are in a list.
use Rattle.std.proofs.Common.{◌≡◌, ℕ, zero, suc, ◌+◌, ◌*◌, ◌<◌, ◌≤◌, inl, inr, true, false, ◌&&◌, ◌||◌, nat_le, List, [], ◌∷◌, ◌++◌, refl, ap, sym, ◌∙◌, arith}
use Rattle.std.specs.List.{AllByRecursion}
use Rattle.std.proofs.lemmas.Bool.{and_parts, leb-true, ltb-true, or_cases}
use Rattle.std.proofs.lemmas.Bool.Decides.{eqb_tells}
use Rattle.pef_words.proofs.Laws.Tests.{or_assoc}
use Rattle.pef_reloc.specs.declared.fixup.Base.{Base}
use Rattle.pef_reloc.specs.declared.fixup.Base.TheVariants.{Section, Import}
use Rattle.pef_reloc.specs.declared.fixup.Fixup.{Fixup}
use Rattle.pef_reloc.specs.declared.instr.Instr.{Instr}
use Rattle.pef_reloc.specs.declared.instr.Instr.TheVariants.{BySectDWithSkip, BySectC, BySectD, TVector12, TVector8, VTable8, ImportRun, SmByImport, SmSetSectC, SmSetSectD, SmBySection, IncrPosition, SmRepeat, SetPosition, LgByImport, LgRepeat, LgBySection, LgSetSectC, LgSetSectD}
use Rattle.pef_reloc.specs.Deliveries.{index_after, index_past, is_import, is_section, passes_on, uses_import, uses_section}
use Rattle.pef_reloc.specs.Fixups.{base_fits, fixup_fits, fixups_fit, fixups_from}
use Rattle.pef_reloc.specs.Limits.{most_sections, offset_limit}
use Rattle.pef_reloc.specs.Steps.{State, added, additions, next_state, numbered, pairs, row}
use Rattle.pef_reloc.proofs.FixupLemmas.{fixups_fit-parts}

begins : (f g : Fixup) (fs gs : List Fixup) (p : ℕ) → f ∷ fs ≡ g ∷ gs → f.offset ≡ p → g.offset ≡ p
begins f g fs gs p e at = let same : f ≡ g = cc in sym (ap (λ (h : Fixup). h.offset) same) ∙ at

row-first : (n p w : ℕ) (b : Base) (f : Fixup) (fs : List Fixup) → row n p w b ≡ f ∷ fs → f.offset ≡ p
unfolding row
row-first zero p w b f fs e = absurd (cc)
row-first (suc n) p w b f fs e = begins (added p b) f (row n (p + w) w b) fs p e refl

pairs-first : (n p w : ℕ) (b b' : Base) (f : Fixup) (fs : List Fixup) → pairs n p w b b' ≡ f ∷ fs → f.offset ≡ p
unfolding pairs
pairs-first zero p w b b' f fs e = absurd (cc)
pairs-first (suc n) p w b b' f fs e = begins (added p b) f (added (p + 4) b' ∷ pairs n (p + w) w b b') fs p e refl

numbered-first : (n p m : ℕ) (f : Fixup) (fs : List Fixup) → numbered n p m ≡ f ∷ fs → f.offset ≡ p
unfolding numbered
numbered-first zero p m f fs e = absurd (cc)
numbered-first (suc n) p m f fs e = begins (added p (Import m)) f (numbered n (p + 4) (m + 1)) fs p e refl

-- an instruction begins to add at the position; only a skip passes words first
pub first_addition : (x : Instr) (s : State) (f : Fixup) (fs : List Fixup) → additions x s ≡ f ∷ fs → f.offset ≡ s.position + passes_on x
first_addition (BySectDWithSkip skip count) s f fs e = row-first count (s.position + 4 * skip) 4 (Section s.d) f fs e
first_addition (BySectC n) s f fs e = let at = row-first n s.position 4 (Section s.c) f fs e in omega (arith, at)
first_addition (BySectD n) s f fs e = let at = row-first n s.position 4 (Section s.d) f fs e in omega (arith, at)
first_addition (TVector12 n) s f fs e = let at = pairs-first n s.position 12 (Section s.c) (Section s.d) f fs e in omega (arith, at)
first_addition (TVector8 n) s f fs e = let at = pairs-first n s.position 8 (Section s.c) (Section s.d) f fs e in omega (arith, at)
first_addition (VTable8 n) s f fs e = let at = row-first n s.position 8 (Section s.d) f fs e in omega (arith, at)
first_addition (ImportRun n) s f fs e = let at = numbered-first n s.position s.import_index f fs e in omega (arith, at)
first_addition (SmByImport k) s f fs e = let at = begins (added s.position (Import k)) f [] fs s.position e refl in omega (arith, at)
first_addition (SmBySection k) s f fs e = let at = begins (added s.position (Section k)) f [] fs s.position e refl in omega (arith, at)
first_addition (LgByImport k) s f fs e = let at = begins (added s.position (Import k)) f [] fs s.position e refl in omega (arith, at)
first_addition (LgBySection k) s f fs e = let at = begins (added s.position (Section k)) f [] fs s.position e refl in omega (arith, at)
first_addition (SmSetSectC k) s f fs e = absurd (cc)
first_addition (SmSetSectD k) s f fs e = absurd (cc)
first_addition (IncrPosition k) s f fs e = absurd (cc)
first_addition (SmRepeat blocks count) s f fs e = absurd (cc)
first_addition (SetPosition k) s f fs e = absurd (cc)
first_addition (LgRepeat blocks count) s f fs e = absurd (cc)
first_addition (LgSetSectC k) s f fs e = absurd (cc)
first_addition (LgSetSectD k) s f fs e = absurd (cc)

-- additions of sections don't change the import index
pub row-index : (n p w k m : ℕ) → index_after (row n p w (Section k)) m ≡ m
unfolding row
row-index zero p w k m = refl
row-index (suc n) p w k m = row-index n (p + w) w k m

pub pairs-index : (n p w k k' m : ℕ) → index_after (pairs n p w (Section k) (Section k')) m ≡ m
unfolding pairs
pairs-index zero p w k k' m = refl
pairs-index (suc n) p w k k' m = pairs-index n (p + w) w k k' m

-- a run of imports adds one to it for each
pub numbered-index : (n p m : ℕ) → index_after (numbered n p m) m ≡ m + n
unfolding numbered
numbered-index zero p m = omega arith
numbered-index (suc n) p m = let e = numbered-index n (p + 4) (m + 1) in omega (arith, e)

-- the import index after an instruction is that after its additions
pub index_kept : (x : Instr) (s : State) → (next_state x s).import_index ≡ index_after (additions x s) s.import_index
index_kept (BySectDWithSkip skip count) s = sym (row-index count (s.position + 4 * skip) 4 s.d s.import_index)
index_kept (BySectC n) s = sym (row-index n s.position 4 s.c s.import_index)
index_kept (BySectD n) s = sym (row-index n s.position 4 s.d s.import_index)
index_kept (TVector12 n) s = sym (pairs-index n s.position 12 s.c s.d s.import_index)
index_kept (TVector8 n) s = sym (pairs-index n s.position 8 s.c s.d s.import_index)
index_kept (VTable8 n) s = sym (row-index n s.position 8 s.d s.import_index)
index_kept (ImportRun n) s = sym (numbered-index n s.position s.import_index)
index_kept (SmByImport k) s = refl
index_kept (SmSetSectC k) s = refl
index_kept (SmSetSectD k) s = refl
index_kept (SmBySection k) s = refl
index_kept (IncrPosition k) s = refl
index_kept (SmRepeat blocks count) s = refl
index_kept (SetPosition k) s = refl
index_kept (LgByImport k) s = refl
index_kept (LgRepeat blocks count) s = refl
index_kept (LgBySection k) s = refl
index_kept (LgSetSectC k) s = refl
index_kept (LgSetSectD k) s = refl

-- the import index after fixups and others
pub index_after-append : (fs gs : List Fixup) (m : ℕ) → index_after (fs ++ gs) m ≡ index_after gs (index_after fs m)
index_after-append [] gs m = refl
index_after-append (f ∷ fs) gs m = index_after-append fs gs (index_past f.base m)

-- each fixup of a list that fits does
each_from : (end : ℕ) (fs : List Fixup) → fixups_from end fs ≡ true → AllByRecursion (λ f. fixup_fits f ≡ true) fs
each_from end [] apart = tt
each_from end (f ∷ fs) apart =
    let first = and_parts (nat_le end f.offset && fixup_fits f) (fixups_from (f.offset + 4) fs) apart in
    ((and_parts (nat_le end f.offset) (fixup_fits f) first.0).1, each_from (f.offset + 4) fs first.1)

pub each_fits : (fs : List Fixup) → fixups_fit fs ≡ true → AllByRecursion (λ f. fixup_fits f ≡ true) fs
each_fits fs fit = each_from 0 fs (fixups_fit-parts fs fit).apart

-- the facts of a fixup that fits
pub record FixupFits (f : Fixup) : Type 0 where
  pub inside : f.offset + 4 ≤ offset_limit
  pub base : base_fits f.base ≡ true

pub fixup_fits-parts : (f : Fixup) → fixup_fits f ≡ true → FixupFits f
fixup_fits-parts f fits =
    let both = and_parts (nat_le (f.offset + 4) offset_limit) (base_fits f.base) fits in
    record { inside = leb-true _ _ both.0; base = both.1 }

used_fits : (b : Base) (k : ℕ) → is_section k b ≡ true → base_fits b ≡ true → k < most_sections
used_fits (Section j) k is fits =
    elim (eqb_tells j k) [
      | inl same ↦ (let e = same.1 in let under = ltb-true j most_sections fits in omega (arith, e, under))
      | inr other ↦ (let no : true ≡ false = sym is ∙ other.0 in absurd (cc))
    ]
used_fits (Import j) k is fits = absurd (cc)

section_below : (fs : List Fixup) (k : ℕ) → AllByRecursion (λ f. fixup_fits f ≡ true) fs → uses_section fs k ≡ true → k < most_sections
section_below [] k fit uses = absurd (cc)
section_below (f ∷ fs) k fit uses =
    elim (or_cases (is_section k f.base) (uses_section fs k) uses) [
      | inl here ↦ used_fits f.base k here (fixup_fits-parts f fit.0).base
      | inr later ↦ section_below fs k fit.1 later
    ]

-- fixups that fit use sections and imports below the limits
pub used_section-below : (fs : List Fixup) (k : ℕ) → fixups_fit fs ≡ true → uses_section fs k ≡ true → k < most_sections
used_section-below fs k fit uses = section_below fs k (each_fits fs fit) uses

-- the sections that fixups in a row use
pub uses_section-append : (fs gs : List Fixup) (k : ℕ) → uses_section (fs ++ gs) k ≡ (uses_section fs k || uses_section gs k)
uses_section-append [] gs k = refl
uses_section-append (f ∷ fs) gs k =
    ap (λ b. is_section k f.base || b) (uses_section-append fs gs k) ∙ or_assoc (is_section k f.base) (uses_section fs k) (uses_section gs k)

pub uses_import-append : (fs gs : List Fixup) (k : ℕ) → uses_import (fs ++ gs) k ≡ (uses_import fs k || uses_import gs k)
uses_import-append [] gs k = refl
uses_import-append (f ∷ fs) gs k =
    ap (λ b. is_import k f.base || b) (uses_import-append fs gs k) ∙ or_assoc (is_import k f.base) (uses_import fs k) (uses_import gs k)
