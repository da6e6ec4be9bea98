-- The lines that declare versions, libraries, imports and sections, each after its first word
-- (docs/SCRIPTS.md, "Lines").
use Rattle.std.specs.Prelude.{ℕ, true, false, ◌-◌, ◌==◌, ◌||◌, Bool, List, [], ◌∷◌, ◌++◌, Result, Ok, Err, length, codes, nat_lt, if◌then◌else◌}
use Rattle.pef_words.specs.Refusals.{first_met, unless}
use Rattle.pef_words.specs.Results.{◌>>=◌}
use Rattle.pef_format.specs.declared.section.SectionKind.{SectionKind}
use Rattle.pef_format.specs.declared.section.SectionKind.TheVariants as kind
use Rattle.pef_format.specs.declared.section.Share.{Share}
use Rattle.pef_format.specs.declared.section.Share.TheVariants as share
use Rattle.pef_format.specs.declared.symbol.LibraryOptions.{LibraryOptions}
use Rattle.pef_format.specs.declared.symbol.SymbolClass.{SymbolClass}
use Rattle.pef_format.specs.declared.symbol.SymbolClass.TheVariants as class
use Rattle.pef_format.specs.Symbols.{Import}
use Rattle.pef_reloc.specs.Limits.{most_imports, most_sections}
use Rattle.pef_script.specs.declared.text.fault.LineFault.{LineFault}
use Rattle.pef_script.specs.declared.text.fault.LineFault.TheVariants.{OutOfOrder}
use Rattle.pef_script.specs.declared.parts.Versions.{Versions}
use Rattle.pef_script.specs.Limits.{greatest_align, greatest_number, greatest_total, most_libraries}
use Rattle.pef_script.specs.Script.{DescribedHeader, DescribedLibrary, described_import, import_names, library_names, section_names}
use Rattle.pef_script.specs.Text.SoFar.{ScriptSoFar, counted_name_tests, entered, entered_once, library_group, name_tests, section_group, versions_group, with_script, word_of}
use Rattle.pef_script.specs.Text.Words.{last_two_words, last_word, next_name_and_word, next_word, number_up_to}

-- `versions CURRENT OLDDEF OLDIMP`

abbrev pub with_versions : ScriptSoFar → Versions → ScriptSoFar
with_versions s versions = record s { reached = versions_group; script = record s.script { versions = versions } }

-- the versions that a line gives, if it is allowed
unfoldable pub versions_in : ScriptSoFar → List ℕ → Result Versions LineFault
versions_in s line = do
  current ← next_word 1 line
  old ← last_two_words 2 current.1
  group ← entered_once s versions_group
  current ← number_up_to greatest_number 1 current.0
  old_def ← number_up_to greatest_number 2 old.0
  old_imp ← number_up_to greatest_number 3 old.1
  Ok (record { current = current; old_def = old_def; old_imp = old_imp })

abbrev pub versions_line : ScriptSoFar → List ℕ → Result ScriptSoFar LineFault
versions_line s line = versions_in s line >>= λ versions. Ok (with_versions s versions)

-- `library NAME CURRENT OLDIMP OPTION`

abbrev pub option_words : List (List ℕ × LibraryOptions)
option_words = (codes "-", record { init_before = false; weak = false })
    ∷ (codes "weak", record { init_before = false; weak = true })
    ∷ (codes "before", record { init_before = true; weak = false })
    ∷ (codes "weak,before", record { init_before = true; weak = true })
    ∷ []

abbrev pub options_of : ℕ → List ℕ → Result LibraryOptions LineFault
options_of = word_of option_words

-- a library with a name that is new and has room
abbrev pub with_library : ScriptSoFar → DescribedLibrary → Result ScriptSoFar LineFault
with_library s library = unless (first_met (counted_name_tests s (library_names s.script) most_libraries library.name))
    (Ok (with_script s library_group (record s.script { libraries = s.script.libraries ++ library ∷ [] })))

-- the library that a line declares, if it is allowed
unfoldable pub library_in : ScriptSoFar → List ℕ → Result DescribedLibrary LineFault
library_in s line = do
  library ← next_name_and_word 1 line
  last ← last_two_words 3 library.2
  group ← entered s library_group
  options ← options_of 4 last.1
  current ← number_up_to greatest_number 2 library.1
  old_imp ← number_up_to greatest_number 3 last.0
  Ok (record { name = library.0; current = current; old_imp = old_imp; options = options })

abbrev pub library_line : ScriptSoFar → List ℕ → Result ScriptSoFar LineFault
library_line s line = library_in s line >>= with_library s

-- `import NAME CLASS STRENGTH`: a symbol of the last library, which must exist

abbrev pub class_words : List (List ℕ × SymbolClass)
class_words = (codes "code", class.Code) ∷ (codes "data", class.Data) ∷ (codes "tvector", class.TransitionVector) ∷ (codes "toc", class.Toc) ∷ (codes "glue", class.Glue) ∷ []

abbrev pub symbol_class_of : ℕ → List ℕ → Result SymbolClass LineFault
symbol_class_of = word_of class_words

-- whether an import is weak
abbrev pub strength_words : List (List ℕ × Bool)
strength_words = (codes "strong", false) ∷ (codes "weak", true) ∷ []

abbrev pub is_weak_word : ℕ → List ℕ → Result Bool LineFault
is_weak_word = word_of strength_words

-- the number of the last library, if an import is allowed
abbrev pub entered_import : ScriptSoFar → Result ℕ LineFault
entered_import s = if nat_lt library_group s.reached || length s.script.libraries == 0 then Err (OutOfOrder 0) else Ok (length s.script.libraries - 1)

-- an import with a name that is new and has room
abbrev pub with_import : ScriptSoFar → Import → Result ScriptSoFar LineFault
with_import s symbol = unless (first_met (counted_name_tests s (import_names s.script) most_imports symbol.name))
    (Ok (with_script s library_group (record s.script { imports = s.script.imports ++ symbol ∷ [] })))

-- the import that a line declares, if it is allowed
unfoldable pub import_in : ScriptSoFar → List ℕ → Result Import LineFault
import_in s line = do
  symbol ← next_name_and_word 1 line
  strength ← last_word 3 symbol.2
  library ← entered_import s
  class ← symbol_class_of 2 symbol.1
  weak ← is_weak_word 3 strength
  Ok (described_import symbol.0 class weak library)

abbrev pub import_line : ScriptSoFar → List ℕ → Result ScriptSoFar LineFault
import_line s line = import_in s line >>= with_import s

-- `section NAME KIND SHARE ALIGN TOTAL`

abbrev pub kind_words : List (List ℕ × SectionKind)
kind_words = (codes "code", kind.Code) ∷ (codes "data", kind.UnpackedData) ∷ (codes "pattern", kind.PatternData) ∷ (codes "const", kind.Constant) ∷ (codes "exec", kind.ExecutableData) ∷ []

abbrev pub kind_of : ℕ → List ℕ → Result SectionKind LineFault
kind_of = word_of kind_words

abbrev pub share_words : List (List ℕ × Share)
share_words = (codes "process", share.Process) ∷ (codes "global", share.Global) ∷ (codes "protected", share.Protected) ∷ []

abbrev pub share_of : ℕ → List ℕ → Result Share LineFault
share_of = word_of share_words

-- a section with a name that is new and has room
abbrev pub with_section : ScriptSoFar → DescribedHeader → Result ScriptSoFar LineFault
with_section s header = unless (first_met (name_tests (section_names s.script) most_sections header.name)) (Ok (record s {
  reached = section_group;
  script = record s.script { sections = s.script.sections ++ record { header = header; image = []; fixups = [] } ∷ [] };
}))

-- the header of the section that a line declares, if it is allowed
unfoldable pub section_in : ScriptSoFar → List ℕ → Result DescribedHeader LineFault
section_in s line = do
  section ← next_name_and_word 1 line
  share ← next_word 3 section.2
  size ← last_two_words 4 share.1
  group ← entered s section_group
  kind ← kind_of 2 section.1
  share ← share_of 3 share.0
  align ← number_up_to greatest_align 4 size.0
  total ← number_up_to greatest_total 5 size.1
  Ok (record { name = section.0; kind = kind; share = share; align = align; total = total })

abbrev pub section_line : ScriptSoFar → List ℕ → Result ScriptSoFar LineFault
section_line s line = section_in s line >>= with_section s
