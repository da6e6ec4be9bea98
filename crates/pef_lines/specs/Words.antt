-- The words of a script's line (docs/SCRIPTS.md, "Text"): bytes 21 to 7E (hex), with one space between two words.
use Rattle.std.specs.Prelude.{ℕ, ◌==◌, ◌&&◌, not, Bool, List, Option, None, Some, length, nat_le, if◌then◌else◌}
use Rattle.std.specs.List.{list_all}
use Rattle.pef_lines.specs.Lines.{cut_at}

-- a printing byte, and no space
abbrev pub is_printing : ℕ → Bool
is_printing b = nat_le 0x21 b && nat_le b 0x7E

-- one or more printing bytes
abbrev pub is_word : List ℕ → Bool
is_word bytes = not (length bytes == 0) && list_all is_printing bytes

-- the one word that is left of a line
unfoldable pub last_word : List ℕ → Option (List ℕ)
last_word line = if is_word line then Some line else None

-- the word before a space, and what is after it
abbrev pub word_before : Option (List ℕ × List ℕ) → Option (List ℕ × List ℕ)
word_before None = None
word_before (Some p) = if is_word p.0 then Some p else None

-- the next word of a line, and what follows the space behind it
unfoldable pub next_word : List ℕ → Option (List ℕ × List ℕ)
next_word line = word_before (cut_at 0x20 line)
