-- Fixups in a list that rises, until one comes before another.
use Rattle.std.proofs.Common.{◌≡◌, ℕ, suc, ◌+◌, ◌≤◌, false, List, [], ◌∷◌, ◌++◌, refl, ap, ◌∙◌, inl, inr, arith}
use Rattle.std.specs.List.{AllByRecursion, fold}
use Rattle.std.proofs.lemmas.Bool.Decides.{leb_tells, nat_tests}
use Rattle.std.proofs.lemmas.List.Sums.{fold-append}
use Rattle.pef_words.proofs.Laws.Lists.{all-append, all-weaker}
use Rattle.pef_reloc.specs.declared.fixup.Fixup.{Fixup}
use Rattle.pef_script.specs.Text.Contents.{meets, overlaps, placed}
use Rattle.pef_script.specs.Text.Kept.Sections.{AreApart, IsRising}

-- fixups that end by here
abbrev pub EndBy : ℕ → List Fixup → Type 0
EndBy end fixups = AllByRecursion (λ (f : Fixup). f.offset + 4 ≤ end) fixups

-- they overlap no word from there on
pub free_past : (fixups : List Fixup) (end offset count : ℕ) → EndBy end fixups → end ≤ offset → overlaps fixups offset count ≡ false
free_past [] end offset count inside past = refl
free_past (f ∷ fixups) end offset count inside past =
    let below = inside.0 in
    let unmet : meets offset count f ≡ false = grind (arith, nat_tests, below) in
    rw unmet (free_past fixups end offset count inside.1 past)

-- and one from there on goes last
pub placed_last : (fixups : List Fixup) (end : ℕ) (new : Fixup) → EndBy end fixups → end ≤ new.offset → placed fixups new ≡ fixups ++ new ∷ []
placed_last [] end new inside past = refl
placed_last (f ∷ fixups) end new inside past =
    elim (leb_tells (suc new.offset) f.offset) [
      | inl before ↦ absurd (let below = inside.0 in omega (arith, below, before.1))
      | inr after ↦ rw after.0 (ap (λ fs. f ∷ fs) (placed_last fixups end new inside.1 past))
    ]

pub apart-more : (before fixups : List Fixup) (new : Fixup) → AreApart before fixups → overlaps (fold placed before fixups) new.offset 1 ≡ false → AreApart before (fixups ++ new ∷ [])
apart-more before [] new apart free = (free, tt)
apart-more before (f ∷ fixups) new apart free = (apart.0, apart-more (placed before f) fixups new apart.1 free)

-- with one more, they rise still
pub rising-more : (fixups : List Fixup) (end after : ℕ) (new : Fixup) → IsRising fixups end → end ≤ new.offset → after ≡ new.offset + 4 → IsRising (fixups ++ new ∷ []) after
rising-more fixups end after new rising past is =
    let inside = all-weaker (λ (f : Fixup). f.offset + 4 ≤ end) (λ (f : Fixup). f.offset + 4 ≤ after) fixups (λ f below. omega (arith, below, past, is)) rising.inside in
    let free = free_past fixups end new.offset 1 rising.inside past in
    record {
      inside = all-append (λ (f : Fixup). f.offset + 4 ≤ after) fixups (new ∷ []) inside (omega (arith, is), tt);
      apart = apart-more [] fixups new rising.apart (rw rising.ordered free);
      ordered = fold-append placed [] fixups (new ∷ []) ∙ (ap (λ fs. placed fs new) rising.ordered ∙ placed_last fixups end new rising.inside past);
    }
