-- Texts of certificates, line by line (docs/FORMATS.md, "Texts of certificates"). A text is refused at its first line
-- that breaks a rule by itself or with the lines before it, by the number of that line, from 1. If a line is missing,
-- it is refused by the number of the line after the last.
use Rattle.std.specs.Prelude.{ℕ, zero, suc, ◌+◌, ◌*◌, ◌-◌, ◌==◌, List, [], ◌∷◌, ◌++◌, Option, Result, Ok, Err, length, replicate, slice_index_or, if◌then◌else◌}
use Rattle.std.specs.Option.{ok_or}
use Rattle.pef_cert.specs.Certified.{Certified}
use Rattle.pef_lines.specs.Lines.{cut_at}
use Rattle.pef_words.specs.Results.{◌>>=◌}
use Rattle.pef_cert.specs.declared.text.fields.Head.{Head}
use Rattle.pef_cert.specs.declared.text.fields.Head.TheVariants.{Section, End}
use Rattle.pef_cert.specs.declared.text.fields.Version.{Version}
use Rattle.pef_cert.specs.declared.text.fields.Version.TheVariants.{One, Two}
use Rattle.pef_cert.specs.Text.Lines.{Range, version_line, head_line, fixups_line, length_line, program_line, range_line, registers_line, row_line}

-- the rest of a text, and the number of its first line
pub record Left : Type 0 where
  pub number : ℕ
  pub text : List ℕ

-- the next line has this value, and this rest follows; each line ends with a line feed
unfoldable pub line_read : {A : Type 0} → (List ℕ → Option A) → Left → Result (A × Left) ℕ
line_read says left = do
  cut ← ok_or (cut_at 0x0A left.text) left.number
  x ← ok_or (says cut.0) left.number
  Ok (x, record { number = left.number + 1; text = cut.1 })

-- version 1: this many lines of labels from an index on, after those of some rows
abbrev pub rows_read : ℕ → ℕ → ℕ → List (List ℕ) → Left → Result (List (List ℕ) × Left) ℕ
rows_read width at zero rows left = Ok (rows, left)
rows_read width at (suc n) rows left = do
  row ← line_read (row_line width at) left
  rows_read width (at + 1) n (rows ++ row.0 ∷ []) row.1

-- version 2: the labels of the last of some rows, or none if there is no row. Each row has some
abbrev pub last_labels : List (List ℕ) → List ℕ
last_labels rows = slice_index_or rows (length rows - 1) []

-- the rows of a range
abbrev pub range_rows : Range → List (List ℕ)
range_rows range = replicate (range.last - range.first + 1) range.labels

-- ranges after some rows, until there are this many rows; there are fewer ranges than the bound
abbrev pub ranges_read : ℕ → ℕ → ℕ → List (List ℕ) → Left → Result (List (List ℕ) × Left) ℕ
ranges_read width count zero rows left = Err left.number
ranges_read width count (suc most) rows left = if length rows == count then Ok (rows, left) else do
  range ← line_read (range_line width count (length rows) (last_labels rows)) left
  ranges_read width count most (rows ++ range_rows range.0) range.1

-- this many rows of labels, in the form of a version
abbrev pub labels_read : Version → ℕ → ℕ → Left → Result (List (List ℕ) × Left) ℕ
labels_read One width count left = rows_read width 0 count [] left
labels_read Two width count left = ranges_read width count (count + 1) [] left

-- the labels at a fixup, for each class of C and of D: one for each register, and one for all other sections
abbrev pub row_width : List ℕ → ℕ
row_width registers = (length registers + 1) * (length registers + 1)

-- the certificate of a section, after the line that begins it
unfoldable pub certificate_read : Version → ℕ → Left → Result (Certified × Left) ℕ
certificate_read version section left = do
  fixups ← line_read fixups_line left
  halfwords ← line_read length_line fixups.1
  program ← line_read (program_line halfwords.0) halfwords.1
  registers ← line_read registers_line program.1
  labels ← labels_read version (row_width registers.0) (fixups.0 + 1) registers.1
  Ok (record { section = section; program = program.0; registers = registers.0; labels = labels.0 }, labels.1)

-- after the last line the text ends
abbrev pub text_ended : List Certified → Left → Result (List Certified) ℕ
text_ended certificates left = if length left.text == 0 then Ok certificates else Err left.number

-- a line begins a certificate, which others may follow, or ends the text
abbrev pub after_head : Version → Head → List Certified → Left → (List Certified → Left → Result (List Certified) ℕ) → Result (List Certified) ℕ
after_head version End certificates left others = text_ended certificates left
after_head version (Section section) certificates left others = do
  certificate ← certificate_read version section left
  others (certificates ++ certificate.0 ∷ []) certificate.1

-- the certificates after some, if there are fewer than n more
abbrev pub certificates_read : Version → ℕ → List Certified → Left → Result (List Certified) ℕ
certificates_read version zero certificates left = Err left.number
certificates_read version (suc n) certificates left = do
  head ← line_read head_line left
  after_head version head.0 certificates head.1 (certificates_read version n)

-- the certificates of a text, or the number of the line that is refused. There are fewer certificates than bytes
unfoldable pub certificates_of : List ℕ → Result (List Certified) ℕ
certificates_of text = do
  version ← line_read version_line (record { number = 1; text = text })
  certificates_read version.0 (length text) [] version.1
