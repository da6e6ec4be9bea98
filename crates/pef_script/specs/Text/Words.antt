-- The words of a line (docs/SCRIPTS.md, "Text"), and what is wrong if one is missing. A number is decimal without a
-- leading zero, or `0x` and one to eight hex digits. An image is spelled by pairs of hex digits.
use Rattle.std.specs.Prelude.{ℕ, ◌+◌, ◌==◌, List, [], ◌∷◌, Option, None, Some, Result, Ok, Err, length, nat_lt, if◌then◌else◌}
use Rattle.std.specs.Option.{is_some, ok_or}
use Rattle.pef_lines.specs.Numbers.{below, decimal_number, hex_number}
use Rattle.pef_lines.specs.Pairs.{hex_bytes}
use Rattle.pef_lines.specs.Words as words
pub use Rattle.pef_lines.specs.Words.{is_printing}
use Rattle.pef_words.specs.Results.{◌>>=◌}
use Rattle.pef_script.specs.declared.text.fault.LineFault.{LineFault}
use Rattle.pef_script.specs.declared.text.fault.LineFault.TheVariants.{BadLine, BadNumber}
use Rattle.pef_script.specs.Limits.{longest_name}

-- The words of a line have numbers: its first word is word 0. Each reading of a word is given the number of that word,
-- which its fault names.

-- the word that can't be read, if this is left of a line: if it is one word, another one was to follow it
abbrev pub unread : ℕ → List ℕ → LineFault
unread at line = BadLine (if is_some (words.last_word line) then at + 1 else at)

-- the only word that is left of a line
unfoldable pub last_word : ℕ → List ℕ → Result (List ℕ) LineFault
last_word at line = ok_or (words.last_word line) (BadLine at)

-- the next word of a line, and the rest after its space
unfoldable pub next_word : ℕ → List ℕ → Result (List ℕ × List ℕ) LineFault
next_word at line = ok_or (words.next_word line) (unread at line)

-- a word that is a name isn't longer than names may be
abbrev pub named : {A : Type 0} → (A → List ℕ) → ℕ → Result A LineFault → Result A LineFault
named name at (Ok x) = if nat_lt longest_name (length (name x)) then Err (BadLine at) else Ok x
named name at (Err fault) = Err fault

-- the next word of a line if it is a name, and the rest after its space
unfoldable pub next_name : ℕ → List ℕ → Result (List ℕ × List ℕ) LineFault
next_name at line = named (λ p. p.0) at (next_word at line)

-- the name that is left of a line
unfoldable pub last_name : ℕ → List ℕ → Result (List ℕ) LineFault
last_name at line = named (λ name. name) at (last_word at line)

-- the next two words of a line, of which the first is a name, and the rest after the second's space
unfoldable pub next_name_and_word : ℕ → List ℕ → Result (List ℕ × List ℕ × List ℕ) LineFault
next_name_and_word at line = do
  name ← next_name at line
  word ← next_word (at + 1) name.1
  Ok (name.0, word.0, word.1)

-- the two words that are left of a line
unfoldable pub last_two_words : ℕ → List ℕ → Result (List ℕ × List ℕ) LineFault
last_two_words at line = do
  first ← next_word at line
  second ← last_word (at + 1) first.1
  Ok (first.0, second)

-- the name and the word after it, which are all that is left of a line
unfoldable pub last_name_and_word : ℕ → List ℕ → Result (List ℕ × List ℕ) LineFault
last_name_and_word at line = do
  name ← next_name at line
  word ← last_word (at + 1) name.1
  Ok (name.0, word)

-- the part after a leading 0: nothing, or `x` and hex digits
abbrev pub number_after_zero : List ℕ → Option ℕ
number_after_zero [] = Some 0
number_after_zero (b ∷ bytes) = if b == 0x78 then hex_number bytes else None

-- the number that a word spells
abbrev pub number_spelled : List ℕ → Option ℕ
number_spelled [] = None
number_spelled (b ∷ bytes) = if b == 0x30 then number_after_zero bytes else decimal_number (b ∷ bytes)

-- the number that a word spells, at most a greatest one
unfoldable pub number_up_to : ℕ → ℕ → List ℕ → Result ℕ LineFault
number_up_to greatest at word = ok_or (below (greatest + 1) (number_spelled word)) (BadNumber at)

-- the bytes of an image that a word spells
unfoldable pub image_of : ℕ → List ℕ → Result (List ℕ) LineFault
image_of at word = ok_or (hex_bytes word) (BadLine at)
