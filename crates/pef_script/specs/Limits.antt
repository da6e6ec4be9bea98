-- The limits of a script, which are this project's own (docs/SCRIPTS.md, "Limits"). The reader of scripts has
-- them as constants. Here they are plain numbers, so that one checks the other. The numbers of sections,
-- imports and fixups are in the Limits of pef_reloc, which defines fixups.
use Rattle.std.specs.Prelude.{ℕ}

-- how many libraries there may be
abbrev pub most_libraries : ℕ
most_libraries = 4096

-- how many exports there may be
abbrev pub most_exports : ℕ
most_exports = 16383

-- how many bytes the names of libraries, imports and exports may have in all, counting one more for each
abbrev pub most_name_bytes : ℕ
most_name_bytes = 8388608

-- how many bytes a name may have
abbrev pub longest_name : ℕ
longest_name = 255

-- the greatest alignment of a section, as an exponent of two
abbrev pub greatest_align : ℕ
greatest_align = 12

-- how many bytes a section may have
abbrev pub greatest_total : ℕ
greatest_total = 16777216

-- the greatest number
abbrev pub greatest_number : ℕ
greatest_number = 4294967295
