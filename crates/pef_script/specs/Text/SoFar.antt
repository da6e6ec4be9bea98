-- The script up to a line, and the words that the lines' grammar uses (docs/SCRIPTS.md, "The order of
-- lines" and "What is refused, and in which order").
use Rattle.std.specs.Prelude.{ℕ, ◌+◌, not, Bool, List, [], ◌∷◌, ◌++◌, Option, None, Some, Result, Ok, Err, length, nat_le, nat_lt, slice_index_or, if◌then◌else◌}
use Rattle.std.specs.List.{position_from}
use Rattle.std.specs.Option.{is_some, ok_or}
use Rattle.std.specs.Str.{bytes_eq}
use Rattle.pef_format.specs.declared.section.SectionKind.TheVariants.{Code}
use Rattle.pef_format.specs.declared.section.Share.TheVariants.{Process}
use Rattle.pef_script.specs.declared.text.fault.LineFault.{LineFault}
use Rattle.pef_script.specs.declared.text.fault.LineFault.TheVariants.{UnknownName, RepeatedName, OutOfOrder, TooMany, BadKind}
use Rattle.pef_script.specs.Limits.{most_name_bytes}
use Rattle.pef_script.specs.Script.{DescribedSection, DescribedScript, name_bytes, section_names}

-- the parts so far, and the group of the last line (0 before the first)
pub record ScriptSoFar : Type 0 where
  pub script : DescribedScript
  pub reached : ℕ

-- the groups of lines, in their order

abbrev pub versions_group : ℕ
versions_group = 1

abbrev pub library_group : ℕ
library_group = 2

abbrev pub section_group : ℕ
section_group = 3

abbrev pub content_group : ℕ
content_group = 4

abbrev pub export_group : ℕ
export_group = 5

abbrev pub main_group : ℕ
main_group = 6

abbrev pub init_group : ℕ
init_group = 7

abbrev pub term_group : ℕ
term_group = 8

-- no line of a group is after one of a later group; the fault is that of the line's first word
abbrev pub entered : ScriptSoFar → ℕ → Result (Unit {0}) LineFault
entered s group = if nat_lt group s.reached then Err (OutOfOrder 0) else Ok tt

-- and one that is allowed once isn't after one of its own group
abbrev pub entered_once : ScriptSoFar → ℕ → Result (Unit {0}) LineFault
entered_once s group = if nat_le group s.reached then Err (OutOfOrder 0) else Ok tt

-- what a table has for a word
abbrev pub word_in : {T : Type 0} → List (List ℕ × T) → List ℕ → Option T
word_in [] word = None
word_in (entry ∷ table) word = if bytes_eq word entry.0 then Some entry.1 else word_in table word

-- what a table has for a word that must be one of its words
abbrev pub word_of : {T : Type 0} → List (List ℕ × T) → ℕ → List ℕ → Result T LineFault
word_of table at word = ok_or (word_in table word) (BadKind at)

-- the number of the first entry with a name
abbrev pub number_of_name : List (List ℕ) → List ℕ → Option ℕ
number_of_name names name = position_from (bytes_eq name) 0 names

-- the number of the section with a name
abbrev pub section_named : ScriptSoFar → ℕ → List ℕ → Result ℕ LineFault
section_named s at name = ok_or (number_of_name (section_names s.script) name) (UnknownName at)

-- a section without contents
abbrev pub no_section : DescribedSection
no_section = record { header = record { name = []; kind = Code; share = Process; align = 0; total = 0 }; image = []; fixups = [] }

-- section k
abbrev pub section_so_far : ScriptSoFar → ℕ → DescribedSection
section_so_far s k = slice_index_or s.script.sections k no_section

-- whether a name is taken
abbrev pub is_repeated : List (List ℕ) → List ℕ → Bool
is_repeated names name = is_some (number_of_name names name)

-- whether the names have too many bytes with one more
abbrev pub has_no_room : ScriptSoFar → List ℕ → Bool
has_no_room s name = nat_lt most_name_bytes (name_bytes s.script + (length name + 1))

-- the tests of a new name after others of its kind, with this limit on their number; the name is word 1 of its line
abbrev pub name_tests : List (List ℕ) → ℕ → List ℕ → List (Bool × LineFault)
name_tests names limit name = (is_repeated names name, RepeatedName 1) ∷ (not (nat_lt (length names) limit), TooMany 1) ∷ []

-- and of one whose bytes count
abbrev pub counted_name_tests : ScriptSoFar → List (List ℕ) → ℕ → List ℕ → List (Bool × LineFault)
counted_name_tests s names limit name = name_tests names limit name ++ (has_no_room s name, TooMany 1) ∷ []

-- the script so far after a line of a group
abbrev pub with_script : ScriptSoFar → ℕ → DescribedScript → ScriptSoFar
with_script s group script = record s { reached = group; script = script }
