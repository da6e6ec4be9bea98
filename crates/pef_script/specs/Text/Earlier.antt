-- The earlier line of a script that a fault is about (docs/SCRIPTS.md, "What is refused, and in which order"). It is found in
-- the lines of the text alone.
use Rattle.std.specs.Prelude.{ℕ, ◌+◌, ◌-◌, ◌*◌, ◌==◌, ◌&&◌, ◌||◌, Bool, true, false, List, Option, None, Some, codes, nat_lt, slice_get, take, if◌then◌else◌}
use Rattle.std.specs.List.{position_from}
use Rattle.std.specs.Option.{option_and_then}
use Rattle.std.specs.Str.{bytes_eq}
use Rattle.pef_words.specs.Refusals.{◌>>=◌}
use Rattle.pef_lines.specs.Lines.{lines_of}
use Rattle.pef_script.specs.declared.text.fault.LineFault.{LineFault}
use Rattle.pef_script.specs.declared.text.fault.LineFault.TheVariants.{BadLine, BadNumber, UnknownName, RepeatedName, OutOfOrder, Overlap, OutsideSection, TooMany, BadKind}
use Rattle.pef_script.specs.declared.text.form.Form.{Form}
use Rattle.pef_script.specs.declared.text.form.Form.TheVariants as form
use Rattle.pef_script.specs.declared.text.form.Names.{Names}
use Rattle.pef_script.specs.declared.text.form.Names.TheVariants.{Libraries, Imports, Sections, Exports}
use Rattle.pef_script.specs.declared.text.form.WordKind.{WordKind}
use Rattle.pef_script.specs.declared.text.form.WordKind.TheVariants as kind
use Rattle.pef_script.specs.Text.Forms.{form_of, row_of}
use Rattle.pef_script.specs.Text.Near.{is_near}
use Rattle.pef_script.specs.Text.Places.{line_in, word_in}
use Rattle.pef_script.specs.Text.Words.{number_spelled}

-- the form of a line, by its first word
abbrev pub form_in : List ℕ → Option Form
form_in line = form_of (word_in 0 line)

-- what a line declares the name of, which is its word 1
abbrev pub declared_in : List ℕ → Option Names
declared_in line = option_and_then (λ form. (row_of form).declares) (form_in line)

-- two lines declare names of the same kind
abbrev pub are_same : Option Names → Option Names → Bool
are_same (Some Libraries) (Some Libraries) = true
are_same (Some Imports) (Some Imports) = true
are_same (Some Sections) (Some Sections) = true
are_same (Some Exports) (Some Exports) = true
are_same one other = false

-- `Overlap`: a fixup's word of the earlier line overlaps one of this line's, in the section with the same name

-- how many words get an address by a line
abbrev pub words_fixed : Form → Option ℕ
words_fixed form.Fix = Some 1
words_fixed form.Tvector = Some 2
words_fixed other = None

-- where these words begin in their section, and where they end
abbrev pub bytes_fixed : List ℕ → Option (ℕ × ℕ)
bytes_fixed line = do
  form ← form_in line
  count ← words_fixed form
  offset ← number_spelled (word_in 2 line)
  Some (offset, offset + 4 * count)

-- two ranges of bytes, from a place to another, have a byte in common
abbrev pub ranges_meet : Option (ℕ × ℕ) → Option (ℕ × ℕ) → Bool
ranges_meet (Some a) (Some b) = nat_lt a.0 b.1 && nat_lt b.0 a.1
ranges_meet one other = false

unfoldable pub overlaps_line : List ℕ → List ℕ → Bool
overlaps_line line earlier = bytes_eq (word_in 1 line) (word_in 1 earlier) && ranges_meet (bytes_fixed line) (bytes_fixed earlier)

-- `OutOfOrder`: the earlier line is of a later group, or of the same group if there may be one line of it

abbrev pub is_late : Option Form → Option Form → Bool
is_late (Some this) (Some earlier) = nat_lt (row_of this).group (row_of earlier).group || ((row_of this).is_once && ((row_of this).group == (row_of earlier).group))
is_late this earlier = false

unfoldable pub is_late_line : List ℕ → List ℕ → Bool
is_late_line line earlier = is_late (form_in line) (form_in earlier)

-- `RepeatedName`: the earlier line declares the same name, of the same kind

unfoldable pub repeats_line : List ℕ → List ℕ → Bool
repeats_line line earlier = are_same (declared_in line) (declared_in earlier) && bytes_eq (word_in 1 line) (word_in 1 earlier)

-- `UnknownName`: the earlier line declares nearly the name that is wanted

-- what word k of a line is; word 0 is its first
abbrev pub kind_after : List WordKind → ℕ → Option WordKind
kind_after kinds k = if k == 0 then None else slice_get kinds (k - 1)

abbrev pub kind_in : ℕ → List ℕ → Option WordKind
kind_in k line = option_and_then (λ form. kind_after (row_of form).words k) (form_in line)

-- what a word refers to, by its kind; the name of a fixup's base is that of an import, if word 3 says so
abbrev pub names_of_kind : List ℕ → WordKind → Option Names
names_of_kind line kind.SectionName = Some Sections
names_of_kind line kind.CodeName = Some Sections
names_of_kind line kind.DataName = Some Sections
names_of_kind line kind.BaseName = Some (if bytes_eq (word_in 3 line) (codes "import") then Imports else Sections)
names_of_kind line kind.ImportName = Some Imports
names_of_kind line other = None

abbrev pub names_wanted : ℕ → List ℕ → Option Names
names_wanted k line = option_and_then (names_of_kind line) (kind_in k line)

unfoldable pub is_near_line : ℕ → List ℕ → List ℕ → Bool
is_near_line k line earlier = are_same (names_wanted k line) (declared_in earlier) && is_near (word_in k line) (word_in 1 earlier)

-- an earlier line is one that the fault of this line is about
unfoldable pub is_about : LineFault → List ℕ → List ℕ → Bool
is_about (Overlap word) line earlier = overlaps_line line earlier
is_about (OutOfOrder word) line earlier = is_late_line line earlier
is_about (RepeatedName word) line earlier = repeats_line line earlier
is_about (UnknownName word) line earlier = is_near_line word line earlier
is_about (BadLine word) line earlier = false
is_about (BadNumber word) line earlier = false
is_about (OutsideSection word) line earlier = false
is_about (TooMany word) line earlier = false
is_about (BadKind word) line earlier = false

-- the number of the first line before the line with a number that the fault of that line is about, if there is one
unfoldable pub earlier_of : List ℕ → ℕ → LineFault → Option ℕ
earlier_of text number fault = position_from (is_about fault (line_in text number)) 1 (take (number - 1) (lines_of text))
