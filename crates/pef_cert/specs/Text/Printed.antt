-- How certificates are printed (docs/FORMATS.md, "Texts of certificates"), and which can be printed.
use Rattle.std.specs.Prelude.{◌≡◌, ℕ, ◌+◌, ◌-◌, ◌^◌, ◌<◌, ◌≤◌, true, List, [], ◌∷◌, ◌++◌, None, codes, decimal, length, if◌then◌else◌}
use Rattle.std.specs.List.{AllByRecursion}
use Rattle.std.specs.Str.{bytes_eq}
use Rattle.pef_cert.specs.Certified.{Certified}
use Rattle.pef_cert.specs.Valid.{rises}
use Rattle.pef_ports.specs.Text.{hex_text}
use Rattle.pef_reloc.specs.declared.instr.Instr.{Instr}
use Rattle.pef_reloc.specs.Instrs.{instrs_fit, program_length, spelled}
use Rattle.pef_reloc.specs.Unrolled.{program_fault}
use Rattle.pef_cert.specs.declared.text.fields.Version.{Version}
use Rattle.pef_cert.specs.declared.text.fields.Version.TheVariants.{One, Two}
use Rattle.pef_cert.specs.Text.Grammar.{row_width}
use Rattle.pef_cert.specs.Text.Lines.{Range, most_text_fixups, most_text_registers}

-- words after the first, each after a space
abbrev pub words_text : List (List ℕ) → List ℕ
words_text [] = []
words_text (word ∷ words) = 0x20 ∷ word ++ words_text words

-- a line of words
abbrev pub line_text : List ℕ → List (List ℕ) → List ℕ
line_text word words = word ++ words_text words ++ 0x0A ∷ []

-- numbers in decimal
abbrev pub number_words : List ℕ → List (List ℕ)
number_words [] = []
number_words (number ∷ numbers) = decimal number ∷ number_words numbers

-- bytes in words of two
abbrev pub halfword_words : List ℕ → List (List ℕ)
halfword_words [] = []
halfword_words (byte ∷ []) = []
halfword_words (high ∷ low ∷ bytes) = hex_text (high ∷ low ∷ []) ∷ halfword_words bytes

-- the words of a program
abbrev pub program_words : List Instr → List (List ℕ)
program_words [] = codes "-" ∷ []
program_words (instr ∷ instrs) = halfword_words (spelled (instr ∷ instrs))

-- version 1: the lines of labels, from an index on
abbrev pub rows_text : ℕ → List (List ℕ) → List ℕ
rows_text at [] = []
rows_text at (row ∷ rows) = line_text (codes "at") (decimal at ∷ number_words row) ++ rows_text (at + 1) rows

-- version 2: rows from an index on as ranges, of which no two neighbours have the same labels

-- a row in front of the ranges of the others
abbrev pub with_row : ℕ → List ℕ → List Range → List Range
with_row at row [] = record { first = at; last = at; labels = row } ∷ []
with_row at row (range ∷ ranges) =
    if bytes_eq row range.labels then record { first = at; last = range.last; labels = row } ∷ ranges
    else record { first = at; last = at; labels = row } ∷ range ∷ ranges

abbrev pub ranges_of : ℕ → List (List ℕ) → List Range
ranges_of at [] = []
ranges_of at (row ∷ rows) = with_row at row (ranges_of (at + 1) rows)

-- the line of a range
abbrev pub range_text : Range → List ℕ
range_text range = line_text (codes "at") (decimal range.first ∷ decimal range.last ∷ number_words range.labels)

abbrev pub ranges_text : List Range → List ℕ
ranges_text [] = []
ranges_text (range ∷ ranges) = range_text range ++ ranges_text ranges

-- the lines of labels
abbrev pub labels_text : Version → List (List ℕ) → List ℕ
labels_text One rows = rows_text 0 rows
labels_text Two rows = ranges_text (ranges_of 0 rows)

-- the lines of a certificate
unfoldable pub certificate_text : Version → Certified → List ℕ
certificate_text version c = line_text (codes "section") (decimal c.section ∷ [])
    ++ line_text (codes "fixups") (decimal (length c.labels - 1) ∷ [])
    ++ line_text (codes "length") (decimal (program_length c.program) ∷ [])
    ++ line_text (codes "program") (program_words c.program)
    ++ line_text (codes "registers") (number_words c.registers ++ codes "*" ∷ [])
    ++ labels_text version c.labels

abbrev pub each_text : Version → List Certified → List ℕ
each_text version [] = []
each_text version (c ∷ certificates) = certificate_text version c ++ each_text version certificates

-- the number of a version
abbrev pub version_word : Version → List ℕ
version_word One = codes "1"
version_word Two = codes "2"

-- the text of some certificates in a version
unfoldable pub versioned_text : Version → List Certified → List ℕ
versioned_text version certificates = line_text (codes "pefcert") (version_word version ∷ []) ++ each_text version certificates ++ line_text (codes "end") []

-- the printed text of some certificates
unfoldable pub certificates_text : List Certified → List ℕ
certificates_text certificates = versioned_text Two certificates

-- a number of 32 bits
abbrev pub IsNumber : ℕ → Type 0
IsNumber n = n < 2 ^ 32

-- a row of labels for this many classes
pub record IsRow (width : ℕ) (row : List ℕ) : Type 0 where
  pub wide : length row ≡ width
  pub numbers : AllByRecursion IsNumber row

-- a certificate that can be in a text: its program is readable, its registers rise, and it has a row for each fixup
-- and one for the end
pub record Printable (c : Certified) : Type 0 where
  pub section : IsNumber c.section
  pub fits : instrs_fit c.program ≡ true
  pub readable : program_fault (spelled c.program) ≡ None
  pub halfwords : IsNumber (program_length c.program)
  pub rising : rises c.registers ≡ true
  pub few : length c.registers ≤ most_text_registers
  pub registers : AllByRecursion IsNumber c.registers
  pub some : 0 < length c.labels
  pub most : length c.labels ≤ most_text_fixups + 1
  pub rows : AllByRecursion (IsRow (row_width c.registers)) c.labels
