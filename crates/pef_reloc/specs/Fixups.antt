-- The fixups of a section: which address is added to which word. "Fixup" is this project's own word for
-- an addition of relocation (Mac OS Runtime Architectures, "PEF Structure", on relocation).
use Rattle.std.specs.Prelude.{ℕ, ◌+◌, Bool, true, ◌&&◌, nat_lt, nat_le, List, [], ◌∷◌, length}
use Rattle.pef_reloc.specs.declared.fixup.Base.{Base}
use Rattle.pef_reloc.specs.declared.fixup.Base.TheVariants.{Section, Import}
use Rattle.pef_reloc.specs.declared.fixup.Fixup.{Fixup}
use Rattle.pef_reloc.specs.Limits.{most_sections, most_imports, most_fixups, offset_limit}

-- the number of a base is within the limits
abbrev pub base_fits : Base → Bool
base_fits (Section section) = nat_lt section most_sections
base_fits (Import import) = nat_lt import most_imports

-- the word and the base of a fixup are within the limits
abbrev pub fixup_fits : Fixup → Bool
fixup_fits fixup = nat_le (fixup.offset + 4) offset_limit && base_fits fixup.base

-- the words of the fixups are at or after an end, each at or after the end of the one before it
abbrev pub fixups_from : ℕ → List Fixup → Bool
fixups_from end [] = true
fixups_from end (fixup ∷ fixups) = nat_le end fixup.offset && fixup_fits fixup && fixups_from (fixup.offset + 4) fixups

-- the end of the last word, and the given end if there is none
abbrev pub fixups_end : ℕ → List Fixup → ℕ
fixups_end end [] = end
fixups_end end (fixup ∷ fixups) = fixups_end (fixup.offset + 4) fixups

-- the fixups are in address order, apart and within the limits
unfoldable pub fixups_fit : List Fixup → Bool
fixups_fit fixups = nat_le (length fixups) most_fixups && fixups_from 0 fixups
