-- What the code's types are seen as: pairs of hex digits as the bytes that they spell, a cursor as the words that are
-- left.
use Rattle.std.specs.Prelude.{ℕ, ◌+◌, ◌*◌, List, [], ◌∷◌, Option, None, Some}
use Rattle.std.specs.Option.{option_copied, unwrap_or}
use Rattle.pef_lines.specs.declared.cursor.Words.{Words}
use Rattle.pef_lines.specs.Cursor.{words_of}
use Rattle.pef_lines.specs.Numbers.{hex_value}

-- the value of a hex digit, and 0 of any other byte
abbrev pub digit_value : ℕ → ℕ
digit_value b = unwrap_or (hex_value b) 0

-- the bytes that pairs spell by the values of their digits
abbrev pub bytes_of_pairs : List ℕ → List ℕ
bytes_of_pairs [] = []
bytes_of_pairs (high ∷ []) = []
bytes_of_pairs (high ∷ low ∷ digits) = (digit_value high * 16 + digit_value low) ∷ bytes_of_pairs digits

-- the words in what is left of a line, none after the last one, and those that a cursor has before it

abbrev pub words_in : Option (List ℕ) → List (List ℕ)
words_in None = []
words_in (Some rest) = words_of rest

abbrev pub words_left : Words → List (List ℕ)
words_left words = words_in (option_copied words.rest)
