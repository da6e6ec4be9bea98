-- Where lines and words are in a text (docs/SCRIPTS.md, "Text"). A word is what is between two spaces, or between a space
-- and an end of its line. So a word is empty where two spaces are adjacent, or a space begins or ends the line.
use Rattle.std.specs.Prelude.{ℕ, zero, suc, ◌+◌, ◌-◌, ◌==◌, List, [], ◌∷◌, Option, None, length, slice_get, if◌then◌else◌}
use Rattle.std.specs.Option.{option_map_or}
use Rattle.pef_lines.specs.Lines.{cut_at, lines_of}
use Rattle.pef_script.specs.declared.text.places.Word.{Word}

-- what is left after this many such bytes; nothing if there are fewer
unfoldable pub after_cuts : ℕ → ℕ → List ℕ → List ℕ
after_cuts byte zero bytes = bytes
after_cuts byte (suc n) [] = []
after_cuts byte (suc n) (b ∷ bytes) = if b == byte then after_cuts byte n bytes else after_cuts byte (suc n) bytes

-- what is before the first such byte; all if there is none
abbrev pub first_part : ℕ → List ℕ → List ℕ
first_part byte bytes = option_map_or (λ p. p.0) (cut_at byte bytes) bytes

-- word k of a line, from 0; none of its bytes if the line has fewer words
unfoldable pub word_in : ℕ → List ℕ → List ℕ
word_in k line = first_part 0x20 (after_cuts 0x20 k line)

-- the text from a line on, by its number from 1, and that line

abbrev pub text_from : List ℕ → ℕ → List ℕ
text_from text number = after_cuts 0x0A (number - 1) text

unfoldable pub line_in : List ℕ → ℕ → List ℕ
line_in text number = first_part 0x0A (text_from text number)

-- the line with a number from 1, if there is one
abbrev pub numbered : List (List ℕ) → ℕ → Option (List ℕ)
numbered lines number = if number == 0 then None else slice_get lines (number - 1)

abbrev pub line_at : List ℕ → ℕ → Option (List ℕ)
line_at text number = numbered (lines_of text) number

-- where word k of a line begins in the line; a word that is missing is at the end
abbrev pub word_start : List ℕ → ℕ → ℕ
word_start line k = length line - length (after_cuts 0x20 k line)

-- where word k begins in the line, and where it ends
unfoldable pub word_range : List ℕ → ℕ → ℕ × ℕ
word_range line k = (word_start line k, word_start line k + length (word_in k line))

-- the bytes of word k of a line of a text, as offsets in the text
unfoldable pub word_at : List ℕ → ℕ → ℕ → Word
word_at text number k = record {
  number = k;
  from = length text - length (text_from text number) + word_start (line_in text number) k;
  to = length text - length (text_from text number) + word_start (line_in text number) k + length (word_in k (line_in text number));
}
