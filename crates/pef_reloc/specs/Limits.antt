-- The limits of fixups and programs, which are this project's own. The code has them as constants. Here
-- they are plain numbers, so that one checks the other.
use Rattle.std.specs.Prelude.{ℕ}

-- how many sections may be named
abbrev pub most_sections : ℕ
most_sections = 16

-- how many imports may be named
abbrev pub most_imports : ℕ
most_imports = 65536

-- how many fixups a section may have
abbrev pub most_fixups : ℕ
most_fixups = 65536

-- the greatest end of the last word
abbrev pub offset_limit : ℕ
offset_limit = 16777216

-- how many instructions a program may execute; each pass and each repeat counts
abbrev pub step_limit : ℕ
step_limit = 16777216
