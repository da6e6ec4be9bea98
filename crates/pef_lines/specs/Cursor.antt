-- The words of a certificate's line (docs/FORMATS.md, "Texts of certificates"): the parts between its spaces.
use Rattle.std.specs.Prelude.{ℕ, Bool, true, false, List, [], ◌∷◌, Option, None, Some, if◌then◌else◌}
use Rattle.std.specs.Str.{bytes_eq}
use Rattle.pef_words.specs.Refusals.{◌>>=◌}
use Rattle.pef_lines.specs.Lines.{parts_of}
use Rattle.pef_lines.specs.Numbers.{decimal_number}

-- the words of a line; one is empty if two spaces, or an end and a space, are adjacent
abbrev pub words_of : List ℕ → List (List ℕ)
words_of line = parts_of 0x20 line

-- a value under a condition
abbrev pub provided : {A : Type 0} → Bool → A → Option A
provided condition x = if condition then Some x else None

-- the first word and those after it
abbrev pub first_of : List (List ℕ) → Option (List ℕ × List (List ℕ))
first_of [] = None
first_of (word ∷ words) = Some (word, words)

-- the words after an expected first word
abbrev pub behind : List ℕ → List (List ℕ) → Option (List (List ℕ))
behind wanted words = do
  first ← first_of words
  provided (bytes_eq first.0 wanted) first.1

-- whether no word is left
abbrev pub none_left : List (List ℕ) → Bool
none_left [] = true
none_left (word ∷ words) = false

-- the number that the first word spells, and the words after it
abbrev pub first_number : List (List ℕ) → Option (ℕ × List (List ℕ))
first_number words = do
  first ← first_of words
  number ← decimal_number first.0
  Some (number, first.1)
