-- How the code keeps a section's fixups while it reads: as a list, with marks if they are in any order, or as their
-- bases by their offsets.
use Rattle.std.specs.Prelude.{◌≡◌, ℕ, ◌+◌, ◌≤◌, false, List, [], ◌∷◌, map}
use Rattle.std.specs.List.{AllByRecursion, fold}
use Rattle.pef_reloc.specs.declared.fixup.Base.{Base}
use Rattle.pef_reloc.specs.declared.fixup.Fixup.{Fixup}
use Rattle.pef_script.specs.declared.text.sections.Order.{Order}
use Rattle.pef_script.specs.declared.text.sections.Order.TheVariants.{Rising, Marked, Mapped}
use Rattle.pef_script.specs.Text.Contents.{fixup_of, overlaps, placed}
use Rattle.pef_script.specs.Text.Kept.Marks.{AreMarked}

-- the fixup of an offset and a base
abbrev pub fixup_at : ℕ × Base → Fixup
fixup_at entry = fixup_of entry.0 entry.1

abbrev pub fixups_in : List (ℕ × Base) → List Fixup
fixups_in entries = map fixup_at entries

-- each of the new fixups overlaps none of those before it
abbrev pub AreApart : List Fixup → List Fixup → Type 0
AreApart fixups [] = Unit {0}
AreApart fixups (new ∷ others) = (overlaps fixups new.offset 1 ≡ false) × AreApart (placed fixups new) others

-- the fixups of a list in address order, or those of a map
abbrev pub fixups_kept : List Fixup → Order → List Fixup
fixups_kept fixups (Rising end) = fixups
fixups_kept fixups (Marked marks) = fold placed [] fixups
fixups_kept fixups (Mapped bases) = fixups_in bases.entries

-- fixups that came in address order, and end at or before a place
pub record IsRising (rising : List Fixup) (end : ℕ) : Type 0 where
  pub inside : AllByRecursion (λ (fixup : Fixup). fixup.offset + 4 ≤ end) rising
  pub apart : AreApart [] rising
  pub ordered : fold placed [] rising ≡ rising

-- fixups that came in any order, and their marks
pub record HaveMarks (fixups : List Fixup) (leads : List ℕ) : Type 0 where
  pub apart : AreApart [] fixups
  pub marked : AreMarked leads fixups

abbrev pub IsKept : List Fixup → Order → Type 0
IsKept fixups (Rising end) = IsRising fixups end
IsKept fixups (Marked marks) = HaveMarks fixups marks.leads.items
IsKept fixups (Mapped bases) = Unit {0}
