-- What the calls return and write that read the rows of a loader section's tables.
use Rattle.std.specs.Prelude.{◌≡◌, ◌⊎◌, ℕ, ◌==◌, List, Option, None, Some, MatchBool, length, map}
use Rattle.pef_format.specs.Exports.{Export}
use Rattle.pef_format.specs.Symbols.{Import}
use Rattle.pef_loader.specs.ImportNames.{named_import_of}
use Rattle.pef_loader.specs.Loader.{Loaded, export_of, import_of, library_of, named_of, reloc_of}
use Rattle.pef_c.specs.Containers.Loaders.{HasTables, IsTablesRefusal}
use Rattle.pef_records.specs.Buffers.{filled, fitting}
use Rattle.pef_records.specs.Containers.Rows.{export_shown, import_shown, library_shown, relocation_shown}
use Rattle.pef_records.specs.declared.structs.PefExport.{PefExport}
use Rattle.pef_records.specs.declared.structs.PefImport.{PefImport}
use Rattle.pef_records.specs.declared.structs.PefLibrary.{PefLibrary}
use Rattle.pef_records.specs.declared.structs.PefRelocation.{PefRelocation}

-- 0, and the rows from a number on are in the first places, and counted; or a refusal, and nothing is written
abbrev pub RowsAnswer : {A : Type 0} → List ℕ → (Loaded → ℕ → Option A) → (Loaded → ℕ) → ℕ → List A → List A → ℕ → ℕ → ℕ → Type 0
RowsAnswer bytes row many from old new before after answer =
    MatchBool (answer == 0)
    ((l : Loaded) × HasTables bytes l × (after ≡ fitting (many l) from (length old)) × (new ≡ filled (row l) from after old))
    ((new ≡ old) × (after ≡ before) × IsTablesRefusal bytes answer)

-- what `pef_libraries`, `pef_imports`, `pef_relocations` and `pef_exports` return and write

abbrev pub LibrariesAnswer : List ℕ → ℕ → List PefLibrary → List PefLibrary → ℕ → ℕ → ℕ → Type 0
LibrariesAnswer bytes from old new before after answer =
    RowsAnswer bytes library_of (λ l. l.header.library_count) from (map library_shown old) (map library_shown new) before after answer

abbrev pub ImportsAnswer : List ℕ → ℕ → List PefImport → List PefImport → ℕ → ℕ → ℕ → Type 0
ImportsAnswer bytes from old new before after answer =
    RowsAnswer bytes import_of (λ l. l.header.import_count) from (map import_shown old) (map import_shown new) before after answer

abbrev pub RelocationsAnswer : List ℕ → ℕ → List PefRelocation → List PefRelocation → ℕ → ℕ → ℕ → Type 0
RelocationsAnswer bytes from old new before after answer =
    RowsAnswer bytes reloc_of (λ l. l.header.reloc_count) from (map relocation_shown old) (map relocation_shown new) before after answer

abbrev pub ExportsAnswer : List ℕ → ℕ → List PefExport → List PefExport → ℕ → ℕ → ℕ → Type 0
ExportsAnswer bytes from old new before after answer =
    RowsAnswer bytes export_of (λ l. l.header.export_count) from (map export_shown old) (map export_shown new) before after answer

-- 0, and the first row with a name is written, and its number; or 201, if no row has the name, or a refusal, and nothing is
-- written
abbrev pub NamedRowAnswer : {A : Type 0} → (Loaded → List ℕ → Option ℕ) → (Loaded → ℕ → Option A) → List ℕ → List ℕ → ℕ → ℕ → A → A → ℕ → Type 0
NamedRowAnswer named row bytes name before after old new answer =
    MatchBool (answer == 0)
    ((l : Loaded) × HasTables bytes l × (named l name ≡ Some after) × (row l after ≡ Some new))
    ((after ≡ before) × (new ≡ old)
    × (((answer ≡ 201) × ((l : Loaded) × HasTables bytes l × (named l name ≡ None))) ⊎ IsTablesRefusal bytes answer))

-- what `pef_export_named` and `pef_import_named` return and write

abbrev pub NamedAnswer : List ℕ → List ℕ → ℕ → ℕ → Export → Export → ℕ → Type 0
NamedAnswer bytes name before after old new answer = NamedRowAnswer named_of export_of bytes name before after old new answer

abbrev pub NamedImportAnswer : List ℕ → List ℕ → ℕ → ℕ → Import → Import → ℕ → Type 0
NamedImportAnswer bytes name before after old new answer = NamedRowAnswer named_import_of import_of bytes name before after old new answer
