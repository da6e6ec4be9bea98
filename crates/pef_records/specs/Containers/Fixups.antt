-- What a relocation program adds to which words, as C sees it.
use Rattle.std.specs.Prelude.{ℕ}
use Rattle.pef_reloc.specs.declared.fixup.Base.{Base}
use Rattle.pef_reloc.specs.declared.fixup.Base.TheVariants.{Section, Import}
use Rattle.pef_reloc.specs.declared.fixup.Fixup.{Fixup}
use Rattle.pef_records.specs.declared.structs.PefFixup.{PefFixup}

-- an addition as C sees it: an offset, a kind and a number
pub record FixupRow : Type 0 where
  pub offset : ℕ
  pub kind : ℕ
  pub number : ℕ

-- 1 for a section, and 2 for an import
abbrev pub kind_of : Base → ℕ
kind_of (Section k) = 1
kind_of (Import j) = 2

abbrev pub number_of : Base → ℕ
number_of (Section k) = k
number_of (Import j) = j

abbrev pub fixup_row : Fixup → FixupRow
fixup_row fixup = record { offset = fixup.offset; kind = kind_of fixup.base; number = number_of fixup.base }

-- the row that a struct holds
abbrev pub fixup_shown : PefFixup → FixupRow
fixup_shown v = record { offset = v.offset; kind = v.kind; number = v.number }
