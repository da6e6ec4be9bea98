-- What the words of a line spell (docs/FORMATS.md, "Texts of certificates"). A number is decimal without a leading
-- zero. The bytes of a program are in words of four upper-case hex digits.
use Rattle.std.specs.Prelude.{ℕ, ◌+◌, ◌*◌, ◌-◌, ◌==◌, ◌&&◌, List, [], ◌∷◌, ◌++◌, Option, None, Some, length, nat_le, if◌then◌else◌}
use Rattle.pef_lines.specs.Cursor.{none_left, provided}
use Rattle.pef_lines.specs.Numbers.{decimal_number}
use Rattle.pef_words.specs.Refusals.{◌>>=◌}

-- a value if no word is left
abbrev pub ended : {A : Type 0} → List (List ℕ) → A → Option A
ended words x = provided (none_left words) x

-- the numbers that all words spell
abbrev pub numbers_in : List (List ℕ) → Option (List ℕ)
numbers_in [] = Some []
numbers_in (word ∷ words) = do
  number ← decimal_number word
  numbers ← numbers_in words
  Some (number ∷ numbers)

-- the value of an upper-case hex digit
abbrev pub digit_in : ℕ → Option ℕ
digit_in b =
    if nat_le 0x30 b && nat_le b 0x39 then Some (b - 0x30)
    else if nat_le 0x41 b && nat_le b 0x46 then Some (b - 0x37)
    else None

-- the bytes that digits spell, two digits for each byte
abbrev pub bytes_in : List ℕ → Option (List ℕ)
bytes_in [] = Some []
bytes_in (digit ∷ []) = None
bytes_in (high ∷ low ∷ digits) = do
  h ← digit_in high
  l ← digit_in low
  bytes ← bytes_in digits
  Some ((h * 16 + l) ∷ bytes)

-- the bytes of a word of four digits
abbrev pub halfword_in : List ℕ → Option (List ℕ)
halfword_in word = if length word == 4 then bytes_in word else None

-- the bytes of all words
abbrev pub halfwords_in : List (List ℕ) → Option (List ℕ)
halfwords_in [] = Some []
halfwords_in (word ∷ words) = do
  bytes ← halfword_in word
  others ← halfwords_in words
  Some (bytes ++ others)
