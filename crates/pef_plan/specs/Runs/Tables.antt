-- Tables of labels and least skips, by the number of fixups left, and the labels that they agree with.
use Rattle.std.specs.Prelude.{◌≡◌, ◌≤◌, ◌<◌, ℕ, ◌+◌, ◌*◌, ◌==◌, Bool, false, List, [], ◌∷◌, length, slice_index, slice_index_or}
use Rattle.pef_reloc.specs.declared.fixup.Fixup.{Fixup}
use Rattle.pef_cert.specs.Labels.{Labels, classes}
use Rattle.pef_cert.specs.Extension.{OfferIs, extension}
use Rattle.pef_plan.specs.declared.runs.suffix.SolvedSuffix.{SolvedSuffix}
use Rattle.pef_reloc.specs.Limits.{most_fixups, most_sections}

-- the place of a class of C and a class of D in a row with a number for each pair of classes
abbrev pub place_of : ℕ → ℕ → ℕ → ℕ
place_of classes c d = c * classes + d

abbrev pub number_in : ℕ → List ℕ → ℕ → ℕ → ℕ
number_in classes row c d = slice_index row (place_of classes c d)

-- the label in a table for a number of fixups left, and the least skip
abbrev pub label_in : ℕ → List (List ℕ) → ℕ → ℕ → ℕ → ℕ
label_in classes labels left c d = number_in classes (slice_index_or labels left []) c d

abbrev pub skip_in : List (List ℕ) → ℕ → ℕ → ℕ
skip_in skips left c = slice_index (slice_index_or skips left []) c

-- tables for up to most fixups left
pub record Shaped (k : SolvedSuffix) (most : ℕ) : Type 0 where
  pub few : length k.registers.now ≤ most_sections
  pub count : most ≤ most_fixups
  pub labels : most < length k.labels.now.rows
  pub skips : most < length k.skips.now.rows
  pub labels_wide : k.labels.now.width ≡ (length k.registers.now + 1) * (length k.registers.now + 1)
  pub skips_wide : k.skips.now.width ≡ length k.registers.now + 1
  pub label_small : (left c d : ℕ) → left ≤ most → c < length k.registers.now + 1 → d < length k.registers.now + 1 → label_in (length k.registers.now + 1) k.labels.now.rows left c d ≤ 4 * left
  pub skip_small : (left c : ℕ) → left ≤ most → c < length k.registers.now + 1 → skip_in k.skips.now.rows left c ≤ 4 * left

-- the row of labels for a number of fixups left
pub record IsRow (k : SolvedSuffix) (left : ℕ) (row : List ℕ) : Type 0 where
  pub is : row ≡ slice_index_or k.labels.now.rows left []
  pub wide : length row ≡ (length k.registers.now + 1) * (length k.registers.now + 1)

-- a table has the least skip for each class of C at the first of some fixups, and then at each of them
abbrev pub OffersAre : Labels → List (List ℕ) → Fixup → List Fixup → Type 0
OffersAre l skips f rest = (c d : ℕ) → c < classes l → d < classes l → OfferIs l f rest c d (skip_in skips (length (f ∷ rest)) c) f.base

abbrev pub OffersFrom : Labels → List (List ℕ) → List Fixup → Type 0
OffersFrom l skips [] = Unit {0}
OffersFrom l skips (f ∷ rest) = OffersAre l skips f rest × OffersFrom l skips rest

-- labels are those of a table for up to most fixups left
pub record SameLabels (l : Labels) (registers : List ℕ) (labels : List (List ℕ)) (most : ℕ) : Type 0 where
  pub registers_are : l.registers ≡ registers
  pub label_is : (left c d : ℕ) → left ≤ most → c < length registers + 1 → d < length registers + 1 → l.label left c d ≡ label_in (length registers + 1) labels left c d

-- tables agree with labels for some fixups and all their suffixes
pub record Agrees (l : Labels) (k : SolvedSuffix) (fixups : List Fixup) : Type 0 where
  pub same : SameLabels l k.registers.now k.labels.now.rows (length fixups)
  pub offers : OffersFrom l k.skips.now.rows fixups

-- the first of some fixups is at a position
abbrev pub begin_at : ℕ → List Fixup → Bool
begin_at p [] = false
begin_at p (f ∷ rest) = f.offset == p

-- a value is the extension for the fixups that are left, and it is small
pub record ValueIs (k : SolvedSuffix) (rest : List Fixup) (p c d value : ℕ) : Type 0 where
  pub is : (l : Labels) → Agrees l k rest → value ≡ extension l rest p c d
  pub small : value ≤ 4 * length rest + 2
