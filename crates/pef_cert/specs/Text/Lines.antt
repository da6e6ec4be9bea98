-- The value of each line of a text of certificates (docs/FORMATS.md, "Texts of certificates"), or none if it breaks a
-- rule by itself or with the lines before it.
use Rattle.std.specs.Prelude.{ℕ, ◌*◌, ◌==◌, ◌&&◌, Bool, List, [], ◌∷◌, Option, None, Some, codes, length, nat_le, nat_lt, not, option_map, if◌then◌else◌}
use Rattle.std.specs.Option.{is_none}
use Rattle.std.specs.Str.{bytes_eq}
use Rattle.pef_cert.specs.Valid.{rises}
use Rattle.pef_lines.specs.Cursor.{behind, first_number, first_of, provided, words_of}
use Rattle.pef_lines.specs.Numbers.{decimal_number}
use Rattle.pef_reloc.specs.declared.instr.Instr.{Instr}
use Rattle.pef_reloc.specs.Unrolled.{instrs_of, program_fault}
use Rattle.pef_words.specs.Refusals.{◌>>=◌}
use Rattle.pef_cert.specs.declared.text.fields.Head.{Head}
use Rattle.pef_cert.specs.declared.text.fields.Head.TheVariants.{Section, End}
use Rattle.pef_cert.specs.declared.text.fields.Version.{Version}
use Rattle.pef_cert.specs.declared.text.fields.Version.TheVariants.{One, Two}
use Rattle.pef_cert.specs.Text.Words.{ended, halfwords_in, numbers_in}

-- the most fixups of a certificate in a text, and the most sections that count as values of a register in it
abbrev pub most_text_fixups : ℕ
most_text_fixups = 65536

abbrev pub most_text_registers : ℕ
most_text_registers = 16

-- `pefcert 1` or `pefcert 2`: the version
unfoldable pub version_line : List ℕ → Option Version
version_line line =
    if bytes_eq line (codes "pefcert 1") then Some One
    else if bytes_eq line (codes "pefcert 2") then Some Two
    else None

-- `NAME NUMBER`
unfoldable pub number_line : List ℕ → List ℕ → Option ℕ
number_line name line = do
  words ← behind name (words_of line)
  digits ← first_of words
  number ← decimal_number digits.0
  ended digits.1 number

-- `section N` begins a certificate, and `end` ends the text
unfoldable pub head_line : List ℕ → Option Head
head_line line = if bytes_eq line (codes "end") then Some End else option_map Section (number_line (codes "section") line)

-- `fixups N`
unfoldable pub fixups_line : List ℕ → Option ℕ
fixups_line line = do
  count ← number_line (codes "fixups") line
  provided (nat_le count most_text_fixups) count

-- `length N`: the halfwords of the program
unfoldable pub length_line : List ℕ → Option ℕ
length_line line = number_line (codes "length") line

-- `program HHHH ..`, or `program -` if it has no halfword: a readable program of this many halfwords

-- the bytes that words spell
abbrev pub bytes_spelled : List (List ℕ) → Option (List ℕ)
bytes_spelled [] = None
bytes_spelled (word ∷ words) = if bytes_eq word (codes "-") then ended words [] else halfwords_in (word ∷ words)

-- whether bytes are a readable program
abbrev pub is_readable : List ℕ → Bool
is_readable bytes = is_none (program_fault bytes)

-- the instructions in bytes that are a readable program of this many halfwords
abbrev pub program_in : ℕ → List ℕ → Option (List Instr)
program_in halfwords bytes = provided (length bytes == 2 * halfwords && is_readable bytes) (instrs_of bytes)

unfoldable pub program_line : ℕ → List ℕ → Option (List Instr)
program_line halfwords line = do
  words ← behind (codes "program") (words_of line)
  bytes ← bytes_spelled words
  program_in halfwords bytes

-- `registers N .. *`: the sections that count as values of a register, rising, and the class of all others

-- the numbers in front of a last word `*`
abbrev pub registers_in : List (List ℕ) → Option (List ℕ)
registers_in [] = None
registers_in (word ∷ words) = if bytes_eq word (codes "*") then ended words [] else do
  number ← decimal_number word
  numbers ← registers_in words
  Some (number ∷ numbers)

unfoldable pub registers_line : List ℕ → Option (List ℕ)
registers_line line = do
  words ← behind (codes "registers") (words_of line)
  registers ← registers_in words
  provided (rises registers && nat_le (length registers) most_text_registers) registers

-- version 1, `at I L ..`: the expected index, and this many labels
unfoldable pub row_line : ℕ → ℕ → List ℕ → Option (List ℕ)
row_line width at line = do
  words ← behind (codes "at") (words_of line)
  index ← first_of words
  number ← decimal_number index.0
  labels ← numbers_in index.1
  provided (number == at && length labels == width) labels

-- version 2, `at I J L ..`: equal rows

-- the indices of the first and of the last one, and the labels of each
pub record Range : Type 0 where
  pub first : ℕ
  pub last : ℕ
  pub labels : List ℕ

-- the expected indices, from one on and below the number of rows, and this many labels, which differ from those before
unfoldable pub range_line : ℕ → ℕ → ℕ → List ℕ → List ℕ → Option Range
range_line width count at before line = do
  words ← behind (codes "at") (words_of line)
  first ← first_number words
  last ← first_number first.1
  labels ← numbers_in last.1
  provided (first.0 == at && nat_le at last.0 && nat_lt last.0 count && length labels == width && not (bytes_eq labels before))
      (record { first = first.0; last = last.0; labels = labels })
