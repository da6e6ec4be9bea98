-- What the fields of an entry point mean (mainSection, mainOffset and the four after them of
-- PEFLoaderInfoHeader, in PEFBinaryFormat.h; Mac OS Runtime Architectures, "PEF Structure", "Loader Header").
use Rattle.std.specs.Prelude.{ℕ, ℤ, pos, negsuc, true, ◌==◌, Bool, Option, None, Some}
use Rattle.pef_format.specs.declared.entry.EntryPoint.{EntryPoint}

-- a section number that the format gives to entry points: that of a section, or -1 for none
abbrev pub is_entry_section : ℤ → Bool
is_entry_section (pos section) = true
is_entry_section (negsuc n) = n == 0

-- the entry point at an offset of a section; none for a negative section
abbrev pub entry_point : ℤ → ℕ → Option EntryPoint
entry_point (pos section) offset = Some (record { section = section; offset = offset })
entry_point (negsuc n) offset = None
