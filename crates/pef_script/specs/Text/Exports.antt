-- The lines for the exports and the entry points of a container, each after its first word
-- (docs/SCRIPTS.md, "Lines").
use Rattle.std.specs.Prelude.{ℕ, pos, Bool, List, [], ◌∷◌, ◌++◌, Some, Result, Ok, nat_lt}
use Rattle.pef_words.specs.Refusals.{first_met, unless}
use Rattle.pef_words.specs.Results.{◌>>=◌}
use Rattle.pef_format.specs.Exports.{Export, absolute_export, reexported_import}
use Rattle.pef_script.specs.declared.text.fault.LineFault.{LineFault}
use Rattle.pef_script.specs.declared.text.fault.LineFault.TheVariants.{OutsideSection}
use Rattle.pef_script.specs.Limits.{greatest_number, most_exports}
use Rattle.pef_script.specs.Script.{described_export, export_names}
use Rattle.pef_script.specs.Text.Contents.{import_named}
use Rattle.pef_script.specs.Text.Declarations.{symbol_class_of}
use Rattle.pef_script.specs.Text.SoFar.{ScriptSoFar, counted_name_tests, entered, entered_once, export_group, init_group, main_group, section_named, section_so_far, term_group, with_script}
use Rattle.pef_script.specs.Text.Words.{last_name, last_name_and_word, last_word, next_name_and_word, number_up_to}

-- the test of an offset in section k, which may be its end, by the number of its word
abbrev pub place_tests : ScriptSoFar → ℕ → ℕ → ℕ → List (Bool × LineFault)
place_tests s k at offset = (nat_lt (section_so_far s k).header.total offset, OutsideSection at) ∷ []

-- one more export
abbrev pub and_export : ScriptSoFar → Export → ScriptSoFar
and_export s symbol = with_script s export_group (record s.script { exports = s.script.exports ++ symbol ∷ [] })

-- an export with a name that is new and has room, if no other test holds
abbrev pub with_export : ScriptSoFar → List (Bool × LineFault) → Export → Result ScriptSoFar LineFault
with_export s tests symbol = unless (first_met (counted_name_tests s (export_names s.script) most_exports symbol.name ++ tests)) (Ok (and_export s symbol))

-- `export NAME CLASS SECTION OFFSET`

-- the export that a line declares after the number of its section, if it is allowed
unfoldable pub export_in : ScriptSoFar → List ℕ → Result (ℕ × Export) LineFault
export_in s line = do
  symbol ← next_name_and_word 1 line
  place ← last_name_and_word 3 symbol.2
  group ← entered s export_group
  class ← symbol_class_of 2 symbol.1
  offset ← number_up_to greatest_number 4 place.1
  k ← section_named s 3 place.0
  Ok (k, described_export symbol.0 class (pos k) offset)

abbrev pub export_line : ScriptSoFar → List ℕ → Result ScriptSoFar LineFault
export_line s line = export_in s line >>= λ e. with_export s (place_tests s e.0 4 e.1.fields.value) e.1

-- `reexport NAME CLASS IMPORT`: an import that is passed on under a name of its own

unfoldable pub reexport_in : ScriptSoFar → List ℕ → Result Export LineFault
reexport_in s line = do
  symbol ← next_name_and_word 1 line
  import_name ← last_name 3 symbol.2
  group ← entered s export_group
  class ← symbol_class_of 2 symbol.1
  j ← import_named s 3 import_name
  Ok (described_export symbol.0 class reexported_import j)

abbrev pub reexport_line : ScriptSoFar → List ℕ → Result ScriptSoFar LineFault
reexport_line s line = reexport_in s line >>= with_export s []

-- `absolute NAME CLASS VALUE`: a number

unfoldable pub absolute_in : ScriptSoFar → List ℕ → Result Export LineFault
absolute_in s line = do
  symbol ← next_name_and_word 1 line
  number ← last_word 3 symbol.2
  group ← entered s export_group
  class ← symbol_class_of 2 symbol.1
  value ← number_up_to greatest_number 3 number
  Ok (described_export symbol.0 class absolute_export value)

abbrev pub absolute_line : ScriptSoFar → List ℕ → Result ScriptSoFar LineFault
absolute_line s line = absolute_in s line >>= with_export s []

-- `main SECTION OFFSET`, `init SECTION OFFSET` and `term SECTION OFFSET`

unfoldable pub entry_in : ScriptSoFar → ℕ → List ℕ → Result (ℕ × ℕ) LineFault
entry_in s group line = do
  place ← last_name_and_word 1 line
  group ← entered_once s group
  offset ← number_up_to greatest_number 2 place.1
  k ← section_named s 1 place.0
  unless (first_met (place_tests s k 2 offset)) (Ok (k, offset))

abbrev pub main_line : ScriptSoFar → List ℕ → Result ScriptSoFar LineFault
main_line s line = entry_in s main_group line >>= λ entry. Ok (record s { reached = main_group; script = record s.script { main = Some entry } })

abbrev pub init_line : ScriptSoFar → List ℕ → Result ScriptSoFar LineFault
init_line s line = entry_in s init_group line >>= λ entry. Ok (record s { reached = init_group; script = record s.script { init = Some entry } })

abbrev pub term_line : ScriptSoFar → List ℕ → Result ScriptSoFar LineFault
term_line s line = entry_in s term_group line >>= λ entry. Ok (record s { reached = term_group; script = record s.script { term = Some entry } })
