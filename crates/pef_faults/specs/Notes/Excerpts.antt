-- A line of a text as it is shown, with the word at fault marked under it (docs/USAGE.md, "Output and status"). At most 72
-- bytes are shown, at most 32 of them before the word.
use Rattle.std.specs.Prelude.{ℕ, ◌-◌, List, ◌∷◌, [], ◌++◌, codes, drop, length, map, max, min, nat_le, replicate, take, ◌&&◌, if◌then◌else◌}
use Rattle.pef_faults.specs.declared.notes.excerpt.Excerpt.{Excerpt}

-- a byte that isn't printing is shown as a question mark
abbrev pub visible : ℕ → ℕ
visible b = if nat_le 32 b && nat_le b 126 then b else 63

-- as many zeros, spaces and marks as an excerpt can have bytes

unfoldable pub zeros : List ℕ
zeros = replicate 72 0

unfoldable pub blanks : List ℕ
blanks = codes "                                                                        "

unfoldable pub marks : List ℕ
marks = codes "^^^^^^^^^^^^^^^^^^^^^^^^^^^^^^^^^^^^^^^^^^^^^^^^^^^^^^^^^^^^^^^^^^^^^^^^"

-- the bytes of a part as they are shown, and zeros up to the width
unfoldable pub shown_bytes : List ℕ → List ℕ
shown_bytes part = map visible part ++ drop (length part) zeros

-- the part of a line that is shown, by where its word begins
abbrev pub part_shown : List ℕ → ℕ → List ℕ
part_shown line from = take 72 (drop (from - 32) line)

-- the excerpt of a line, by the bytes of its word
unfoldable pub excerpt_of : List ℕ → ℕ → ℕ → Excerpt
excerpt_of line from to = record {
  bytes = shown_bytes (part_shown line from);
  len = length (part_shown line from);
  column = from - (from - 32);
  marked = min (max (to - from) 1) (72 - (from - (from - 32)));
}

-- the line with the mark
unfoldable pub mark_text : Excerpt → List ℕ
mark_text e = codes "\n    " ++ (take e.column blanks ++ (take e.marked marks ++ 10 ∷ []))

-- the part of the line that is shown, and the line with the mark
unfoldable pub excerpt_text : Excerpt → List ℕ
excerpt_text e = codes "    " ++ (take e.len e.bytes ++ mark_text e)
