-- What can be read of a loader section that may be damaged, and all faults that it has.
use Rattle.std.specs.Prelude.{ℕ, ◌+◌, ◌-◌, ◌*◌, ◌/◌, Bool, not, min, List, [], ◌∷◌, ◌++◌, Option, Some, None, Result, Ok, Err, length, nat_le, nat_lt, option_map, if◌then◌else◌}
use Rattle.std.specs.Option.{option_map_or}
use Rattle.pef_words.specs.Bytes.{name_at, number_at}
use Rattle.pef_words.specs.Findings.{all_among, all_met, found_in}
use Rattle.pef_words.specs.Refusals.{◌>>=◌}
use Rattle.pef_format.specs.Rows.{named}
use Rattle.pef_format.specs.Symbols.{import_named}
use Rattle.pef_format.specs.declared.export.ExportFields.{ExportFields}
use Rattle.pef_format.specs.declared.import.Imported.{Imported}
use Rattle.pef_format.specs.declared.library.LibraryFields.{LibraryFields}
use Rattle.pef_format.specs.declared.named.Named.{Named}
use Rattle.pef_hash.specs.Exports.{ExportTable, entry_of, name_of}
use Rattle.pef_loader.specs.declared.fault.LoaderFault.{LoaderFault}
use Rattle.pef_loader.specs.declared.fault.LoaderFault.TheVariants.{LoaderShort, BadTableOffset, BadExportTable}
use Rattle.pef_loader.specs.CutNames.{CutName, cut_name}
use Rattle.pef_loader.specs.Header.{header_of, imports_from, library_place, reloc_place, relocs_from, tables_end}
use Rattle.pef_loader.specs.Library.{library_at, library_tests}
use Rattle.pef_loader.specs.Import.{import_at, import_tests, owner_of}
use Rattle.pef_loader.specs.Reloc.{instructions_of, reloc_at, reloc_tests}
use Rattle.pef_loader.specs.Export.{export_table, export_tests, has_exports}
use Rattle.pef_loader.specs.Loader.{Loaded, entry_tests}

-- what can be read of the bytes: those with a header, whatever else is wrong
unfoldable pub partial_of : ℕ → List ℕ → Result Loaded LoaderFault
partial_of sections bytes = option_map_or (λ h. Ok (record { sections = sections; bytes = bytes; header = h })) (header_of bytes) (Err LoaderShort)

-- how many of count rows, each of some size, are in the bytes from a place on
abbrev pub rows_in : Loaded → ℕ → ℕ → ℕ → ℕ
rows_in l from size count = min ((length l.bytes - from) / size) count

-- how many exports there are, if their table is whole
abbrev pub exports_in : Loaded → ℕ
exports_in l = if has_exports l.bytes l.header then l.header.export_count else 0

-- a library, whose name may be missing
abbrev pub LibraryRow : Type 0
LibraryRow = Named LibraryFields (Option (List ℕ))

abbrev pub library_row : Loaded → ℕ → Option LibraryRow
library_row l i = if nat_lt i l.header.library_count then option_map (named (λ at. name_at l.bytes (l.header.strings_offset + at))) (library_at l.bytes i) else None

-- where its name begins
abbrev pub library_name_at : Loaded → ℕ → Option ℕ
library_name_at l i = if nat_lt i l.header.library_count then option_map (λ e. l.header.strings_offset + e.name) (library_at l.bytes i) else None

-- a library with at most so many bytes of its name
abbrev pub CutLibraryRow : Type 0
CutLibraryRow = Named LibraryFields (Option CutName)

abbrev pub cut_library_row : ℕ → Loaded → ℕ → Option CutLibraryRow
cut_library_row most l i = option_map (named (option_map (cut_name most))) (library_row l i)

-- the fields of a library, and its reserved bytes: one (reservedA) and two (reservedB), at 21
abbrev pub library_fields : Loaded → ℕ → Option (LibraryFields × ℕ)
library_fields l i = if nat_lt i l.header.library_count then (do
  e ← library_at l.bytes i
  high ← number_at 1 l.bytes (library_place i + 21)
  low ← number_at 2 l.bytes (library_place i + 21 + 1)
  Some (e.fields, high * 0x10000 + low)) else None

-- an import, whose name or library may be missing
abbrev pub ImportRow : Type 0
ImportRow = Imported (Option (List ℕ)) (Option ℕ)

abbrev pub import_row : Loaded → ℕ → Option ImportRow
import_row l j = if nat_lt j l.header.import_count then option_map (λ e. record {
  fields = e.fields;
  name = name_at l.bytes (l.header.strings_offset + e.name);
  library = owner_of l.bytes l.header j;
}) (import_at l.bytes l.header j) else None

-- where its name begins
abbrev pub import_name_at : Loaded → ℕ → Option ℕ
import_name_at l j = if nat_lt j l.header.import_count then option_map (λ e. l.header.strings_offset + e.name) (import_at l.bytes l.header j) else None

-- an import with at most so many bytes of its name
abbrev pub CutImportRow : Type 0
CutImportRow = Imported (Option CutName) (Option ℕ)

abbrev pub cut_import_row : ℕ → Loaded → ℕ → Option CutImportRow
cut_import_row most l j = option_map (import_named (option_map (cut_name most))) (import_row l j)

-- a relocation header, whose program may be missing
pub record RelocationRow : Type 0 where
  pub section : ℕ
  pub count : ℕ
  pub first : ℕ
  pub program : Option (List ℕ)

abbrev pub relocation_row : Loaded → ℕ → Option RelocationRow
relocation_row l k = if nat_lt k l.header.reloc_count then option_map (λ e. record {
  section = e.section;
  count = e.count;
  first = e.first;
  program = instructions_of l.bytes l.header e;
}) (reloc_at l.bytes l.header k) else None

-- the reserved halfword of a relocation header (reservedA), at 2
abbrev pub relocation_reserved : Loaded → ℕ → Option ℕ
relocation_reserved l k = if nat_lt k l.header.reloc_count then number_at 2 l.bytes (reloc_place l.header k + 2) else None

-- an export, whose name may be missing
abbrev pub ExportRow : Type 0
ExportRow = Named ExportFields (Option (List ℕ))

abbrev pub export_row_of : ExportTable → ℕ → Option ExportRow
export_row_of t i = option_map (λ e. record { fields = e.fields; name = name_of t i }) (entry_of t i)

abbrev pub export_row : Loaded → ℕ → Option ExportRow
export_row l i = if has_exports l.bytes l.header then export_row_of (export_table l.bytes l.header) i else None

-- an export with at most so many bytes of its name
abbrev pub CutExportRow : Type 0
CutExportRow = Named ExportFields (Option CutName)

-- where its name begins
abbrev pub export_name_at : Loaded → ℕ → Option ℕ
export_name_at l i = if has_exports l.bytes l.header then option_map (λ e. l.header.strings_offset + e.name) (entry_of (export_table l.bytes l.header) i) else None

-- the tests of each row that is in the bytes
abbrev pub tests_of_library : Loaded → ℕ → Option (List (Bool × LoaderFault))
tests_of_library l i = option_map (library_tests l.bytes l.header i) (library_at l.bytes i)

abbrev pub tests_of_import : Loaded → ℕ → Option (List (Bool × LoaderFault))
tests_of_import l j = option_map (import_tests l.bytes l.header j) (import_at l.bytes l.header j)

abbrev pub tests_of_relocation : Loaded → ℕ → Option (List (Bool × LoaderFault))
tests_of_relocation l k = option_map (reloc_tests l.bytes l.header l.sections k) (reloc_at l.bytes l.header k)

abbrev pub tests_of_export : Loaded → ℕ → Option (List (Bool × LoaderFault))
tests_of_export l i = option_map (export_tests l.bytes l.header l.sections i) (entry_of (export_table l.bytes l.header) i)

-- the tests of the tables after the header, and of the export table
abbrev pub table_tests : Loaded → List (Bool × LoaderFault)
table_tests l = (nat_lt (length l.bytes) (tables_end l.header), BadTableOffset) ∷ []

abbrev pub export_table_tests : Loaded → List (Bool × LoaderFault)
export_table_tests l = (not (has_exports l.bytes l.header), BadExportTable) ∷ []

-- the faults of each row
abbrev pub library_findings : Loaded → ℕ → List LoaderFault
library_findings l i = option_map_or all_met (tests_of_library l i) []

abbrev pub import_findings : Loaded → ℕ → List LoaderFault
import_findings l j = option_map_or all_met (tests_of_import l j) []

abbrev pub relocation_findings : Loaded → ℕ → List LoaderFault
relocation_findings l k = option_map_or all_met (tests_of_relocation l k) []

abbrev pub export_findings : Loaded → ℕ → List LoaderFault
export_findings l i = option_map_or all_met (tests_of_export l i) []

-- the faults of all rows of a table, if the whole table is there: the places of rows depend on the counts, one of which is
-- wrong if a table passes the end
abbrev pub if_whole : {F : Type 0} → Bool → List F → List F
if_whole whole findings = if whole then findings else []

abbrev pub libraries_findings : Loaded → List LoaderFault
libraries_findings l = if_whole (nat_le (imports_from l.header) (length l.bytes)) (all_among (library_findings l) 0 l.header.library_count)

abbrev pub imports_findings : Loaded → List LoaderFault
imports_findings l = if_whole (nat_le (relocs_from l.header) (length l.bytes)) (all_among (import_findings l) 0 l.header.import_count)

abbrev pub relocations_findings : Loaded → List LoaderFault
relocations_findings l = if_whole (nat_le (tables_end l.header) (length l.bytes)) (all_among (relocation_findings l) 0 l.header.reloc_count)

abbrev pub exports_findings : Loaded → List LoaderFault
exports_findings l = if_whole (has_exports l.bytes l.header) (all_among (export_findings l) 0 l.header.export_count)

-- the faults of a loader section with a header, in the order in which the first of them is reported
abbrev pub findings_in : Loaded → List LoaderFault
findings_in l = all_met (table_tests l)
    ++ (libraries_findings l
    ++ (imports_findings l
    ++ (all_met (entry_tests l.sections l.header)
    ++ (relocations_findings l
    ++ (all_met (export_table_tests l)
    ++ exports_findings l)))))

-- all faults of some bytes as a loader section
unfoldable pub findings_of : ℕ → List ℕ → List LoaderFault
findings_of sections bytes = found_in findings_in (partial_of sections bytes)
