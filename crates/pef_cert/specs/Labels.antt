-- The labels of a certificate: a number for each state at a fixup's offset. A certificate claims that from
-- there on no program has fewer halfwords.
--
-- Of the numbers in the registers C and D only their class counts: the place of a section among those that
-- the fixups use, and one class more for all other sections.
use Rattle.std.specs.Prelude.{ℕ, suc, ◌+◌, ◌==◌, Bool, false, if◌then◌else◌, List, [], ◌∷◌, length}
use Rattle.pef_reloc.specs.declared.fixup.Base.{Base}
use Rattle.pef_reloc.specs.declared.fixup.Base.TheVariants.{Section, Import}

-- the sections that count as values of a register; and the label L with this many fixups left, for a class
-- of C and a class of D
pub record Labels : Type 0 where
  pub registers : List ℕ
  pub label : ℕ → ℕ → ℕ → ℕ

-- the class of a section: its place among those that count, or their number for every other section
abbrev pub class_of : List ℕ → ℕ → ℕ
class_of [] k = 0
class_of (r ∷ registers) k = if r == k then 0 else suc (class_of registers k)

-- how many classes there are
abbrev pub classes : Labels → ℕ
classes l = length l.registers + 1

-- a base that is a section of a class
abbrev pub has_class : List ℕ → ℕ → Base → Bool
has_class registers class (Section k) = class_of registers k == class
has_class registers class (Import k) = false
