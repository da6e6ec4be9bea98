-- What the calls return and write that read a container as far as it can be read. 201 means that there is nothing under the
-- number, or that it isn't in the bytes.
use Rattle.std.specs.Prelude.{◌≡◌, ◌⊎◌, ◌==◌, ℕ, List, Option, None, Some, Result, Ok, Err, MatchBool, length, map}
use Rattle.pef_views.specs.Container.{Contained}
use Rattle.pef_views.specs.Faults.{fault_number}
use Rattle.pef_views.specs.Partial.{header_in, name_of_section, partial_of, sections_allowed}
use Rattle.pef_views.specs.Section.{raw_of}
use Rattle.pef_views.specs.declared.fault.ViewFault.{ViewFault}
use Rattle.pef_views.specs.declared.section.SectionHeader.{SectionHeader}
use Rattle.pef_loader.specs.Faults as loader
use Rattle.pef_loader.specs.Header.{imports_from, library_place, relocs_from}
use Rattle.pef_loader.specs.Loader.{Loaded}
use Rattle.pef_loader.specs.Partial as tables
use Rattle.pef_loader.specs.Partial.{exports_in, rows_in}
use Rattle.pef_loader.specs.declared.fault.LoaderFault.{LoaderFault}
use Rattle.pef_records.specs.Buffers.{filled, fitting}
use Rattle.pef_records.specs.Containers.Container.{header_given, section_given}
use Rattle.pef_records.specs.Containers.Loaders.{loader_given}
use Rattle.pef_records.specs.Containers.Partial.{export_in, import_in, library_in, relocation_in}
use Rattle.pef_records.specs.Containers.Rows.{export_shown, import_shown, library_shown, relocation_shown}
use Rattle.pef_records.specs.declared.structs.PefExport.{PefExport}
use Rattle.pef_records.specs.declared.structs.PefHeader.{PefHeader}
use Rattle.pef_records.specs.declared.structs.PefImport.{PefImport}
use Rattle.pef_records.specs.declared.structs.PefLibrary.{PefLibrary}
use Rattle.pef_records.specs.declared.structs.PefLoader.{PefLoader}
use Rattle.pef_records.specs.declared.structs.PefRelocation.{PefRelocation}
use Rattle.pef_records.specs.declared.structs.PefSection.{PefSection}

-- the bytes have a container header, and this holds for what can be read of them
abbrev pub OfPart : List ℕ → (Contained → Type 0) → Type 0
OfPart bytes holds = (c : Contained) × (partial_of bytes ≡ Ok c) × holds c

-- the number of the reason why nothing of them can be read
abbrev pub IsUnreadable : List ℕ → ℕ → Type 0
IsUnreadable bytes answer = (fault : ViewFault) × (partial_of bytes ≡ Err fault) × (answer ≡ fault_number fault)

-- what can be read has no such part, or nothing can be read
abbrev pub PartLacks : {A : Type 0} → List ℕ → (Contained → Option A) → ℕ → Type 0
PartLacks bytes part answer = ((answer ≡ 201) × OfPart bytes (λ c. part c ≡ None)) ⊎ IsUnreadable bytes answer

-- what `pef_partial_header` returns and writes
abbrev pub PartHeaderAnswers : List ℕ → PefHeader → PefHeader → ℕ → Type 0
PartHeaderAnswers bytes old new answer =
    MatchBool (answer == 0) (OfPart bytes (λ c. new ≡ header_given c.header)) ((new ≡ old) × IsUnreadable bytes answer)

-- what `pef_partial_section` returns and writes: the section's header, and its raw bytes as far as they are there
abbrev pub PartSectionAnswers : List ℕ → ℕ → PefSection → PefSection → List ℕ → List ℕ → ℕ → Type 0
PartSectionAnswers bytes i old new raw raw' answer =
    MatchBool (answer == 0)
    (OfPart bytes (λ c. (s : SectionHeader) × (header_in c i ≡ Some s) × (new ≡ section_given s) × (raw' ≡ raw_of c.bytes s)))
    ((new ≡ old) × (raw' ≡ raw) × PartLacks bytes (λ c. header_in c i) answer)

-- what `pef_partial_section_name` returns and writes
abbrev pub PartNameAnswers : List ℕ → ℕ → List ℕ → List ℕ → ℕ → Type 0
PartNameAnswers bytes i old new answer =
    MatchBool (answer == 0) (OfPart bytes (λ c. name_of_section c i ≡ Some new)) ((new ≡ old) × PartLacks bytes (λ c. name_of_section c i) answer)

-- what can be read of the loader section of a container, or why nothing can
abbrev pub part_in : Contained → Result Loaded LoaderFault
part_in c = tables.partial_of (sections_allowed c) c.loader

-- the bytes have a loader header, and this can be read of their loader section
abbrev pub HasPart : List ℕ → Loaded → Type 0
HasPart bytes l = OfPart bytes (λ c. part_in c ≡ Ok l)

-- the number of the reason why nothing of the bytes, or of their loader section, can be read
abbrev pub IsTablesUnreadable : List ℕ → ℕ → Type 0
IsTablesUnreadable bytes answer =
    IsUnreadable bytes answer
    ⊎ OfPart bytes (λ c. (fault : LoaderFault) × (part_in c ≡ Err fault) × (answer ≡ loader.fault_number fault))

abbrev pub ReadsPart : List ℕ → Result Loaded ℕ → Type 0
ReadsPart bytes (Ok l) = HasPart bytes l
ReadsPart bytes (Err number) = IsTablesUnreadable bytes number

-- what `pef_partial_loader` returns and writes
abbrev pub PartLoaderAnswers : List ℕ → PefLoader → PefLoader → ℕ → Type 0
PartLoaderAnswers bytes old new answer =
    MatchBool (answer == 0) ((l : Loaded) × HasPart bytes l × (new ≡ loader_given l.header)) ((new ≡ old) × IsTablesUnreadable bytes answer)

-- how many rows of each table are in the bytes

abbrev pub libraries_in : Loaded → ℕ
libraries_in l = rows_in l (library_place 0) 24 l.header.library_count

abbrev pub imports_in : Loaded → ℕ
imports_in l = rows_in l (imports_from l.header) 4 l.header.import_count

abbrev pub relocations_in : Loaded → ℕ
relocations_in l = rows_in l (relocs_from l.header) 12 l.header.reloc_count

-- 0, and the rows from a number on are in the first places, and counted; or nothing can be read, and nothing is written
abbrev pub PartRowsAnswer : {A : Type 0} → List ℕ → (Loaded → ℕ → Option A) → (Loaded → ℕ) → ℕ → List A → List A → ℕ → ℕ → ℕ → Type 0
PartRowsAnswer bytes row many from old new before after answer =
    MatchBool (answer == 0)
    ((l : Loaded) × HasPart bytes l × (after ≡ fitting (many l) from (length old)) × (new ≡ filled (row l) from after old))
    ((new ≡ old) × (after ≡ before) × IsTablesUnreadable bytes answer)

-- what `pef_partial_libraries`, `pef_partial_imports`, `pef_partial_relocations` and `pef_partial_exports` return and write

abbrev pub PartLibrariesAnswer : List ℕ → ℕ → List PefLibrary → List PefLibrary → ℕ → ℕ → ℕ → Type 0
PartLibrariesAnswer bytes from old new before after answer =
    PartRowsAnswer bytes library_in libraries_in from (map library_shown old) (map library_shown new) before after answer

abbrev pub PartImportsAnswer : List ℕ → ℕ → List PefImport → List PefImport → ℕ → ℕ → ℕ → Type 0
PartImportsAnswer bytes from old new before after answer =
    PartRowsAnswer bytes import_in imports_in from (map import_shown old) (map import_shown new) before after answer

abbrev pub PartRelocationsAnswer : List ℕ → ℕ → List PefRelocation → List PefRelocation → ℕ → ℕ → ℕ → Type 0
PartRelocationsAnswer bytes from old new before after answer =
    PartRowsAnswer bytes relocation_in relocations_in from (map relocation_shown old) (map relocation_shown new) before after answer

abbrev pub PartExportsAnswer : List ℕ → ℕ → List PefExport → List PefExport → ℕ → ℕ → ℕ → Type 0
PartExportsAnswer bytes from old new before after answer =
    PartRowsAnswer bytes export_in exports_in from (map export_shown old) (map export_shown new) before after answer
