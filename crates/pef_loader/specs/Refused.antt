-- Where a loader section is refused: in its header, or in the first row of a table that breaks a rule, at the field that does.
use Rattle.std.specs.Prelude.{◌≡◌, ℕ, ◌%◌, ◌^◌, ◌<◌, false, List, length, Option, None, Some, Err}
use Rattle.std.specs.Int.{cast_signed, w16, w32}
use Rattle.pef_words.specs.Bytes.{number_at}
use Rattle.pef_words.specs.Refusals.{◌>>=◌, first_met}
use Rattle.pef_hash.specs.Exports.{Entry}
use Rattle.pef_hash.specs.Exports as table
use Rattle.pef_loader.specs.Export.{export_refusal, export_table, has_exports}
use Rattle.pef_loader.specs.Faults.{fault_offset}
use Rattle.pef_loader.specs.Header.{header_of, tables_end}
use Rattle.pef_loader.specs.Import.{ImportEntry, import_at, import_refusal}
use Rattle.pef_loader.specs.Library.{LibraryEntry, library_at, library_refusal}
use Rattle.pef_loader.specs.Loader.{entry_tests, loaded_of}
use Rattle.pef_loader.specs.Reloc.{reloc_at, reloc_refusal}
use Rattle.pef_loader.specs.declared.header.EntryKind.TheVariants.{Main, Init, Term}
use Rattle.pef_loader.specs.declared.header.LoaderHeader.{LoaderHeader}
use Rattle.pef_loader.specs.declared.reloc.RelocEntry.{RelocEntry}
use Rattle.pef_loader.specs.declared.fault.LoaderFault.{LoaderFault}
use Rattle.pef_loader.specs.declared.fault.LoaderFault.TheVariants.{LoaderShort, BadTableOffset, BadName, BadLibraryRange, OrphanImport, BadEntry, BadRelocSection, RelocOutside, BadExportTable, BadExportSection}
use Rattle.pef_loader.specs.declared.fault.NamedRow.TheVariants as row

-- the number of so many bytes at a refusal's offset is the value of a field: it means what the field is read as
pub record HasField (bytes : List ℕ) (fault : LoaderFault) (size : ℕ) (means : ℕ → Type 0) : Type 0 where
  pub value : ℕ
  pub there : (fault_offset bytes fault >>= number_at size bytes) ≡ Some value
  pub is : means value

-- the header is there, and is refused for this reason, at a field of four bytes
pub record IsOfHeader (bytes : List ℕ) (fault : LoaderFault) (reason : LoaderHeader → Type 0) (means : LoaderHeader → ℕ → Type 0) : Type 0 where
  pub header : LoaderHeader
  pub read : header_of bytes ≡ Some header
  pub refused : reason header
  pub here : HasField bytes fault 4 (means header)

-- the first row of a table that breaks a rule is row i, and this is the first rule that it breaks, at a field of so many bytes
pub record IsOfRow (bytes : List ℕ) (fault : LoaderFault) (i : ℕ) (count : LoaderHeader → ℕ) (refusal : LoaderHeader → ℕ → Option LoaderFault) (E : Type 0) (row_at : LoaderHeader → Option E) (size : ℕ) (means : E → ℕ → Type 0) : Type 0 where
  pub header : LoaderHeader
  pub read : header_of bytes ≡ Some header
  pub below : i < count header
  pub before : (k : ℕ) → k < i → refusal header k ≡ None
  pub refused : refusal header i ≡ Some fault
  pub fields : E
  pub there : row_at header ≡ Some fields
  pub here : HasField bytes fault size (means fields)

abbrev pub IsOfLibrary : List ℕ → LoaderFault → ℕ → (LibraryEntry → ℕ → Type 0) → Type 0
IsOfLibrary bytes fault i means = IsOfRow bytes fault i (λ h. h.library_count) (library_refusal bytes) LibraryEntry (λ h. library_at bytes i) 4 means

abbrev pub IsOfImport : List ℕ → LoaderFault → ℕ → (ImportEntry → ℕ → Type 0) → Type 0
IsOfImport bytes fault j means = IsOfRow bytes fault j (λ h. h.import_count) (import_refusal bytes) ImportEntry (λ h. import_at bytes h j) 4 means

abbrev pub IsOfRelocation : ℕ → List ℕ → LoaderFault → ℕ → ℕ → (RelocEntry → ℕ → Type 0) → Type 0
IsOfRelocation sections bytes fault k size means = IsOfRow bytes fault k (λ h. h.reloc_count) (λ h. reloc_refusal bytes h sections) RelocEntry (λ h. reloc_at bytes h k) size means

abbrev pub IsOfExport : ℕ → List ℕ → LoaderFault → ℕ → ℕ → (Entry → ℕ → Type 0) → Type 0
IsOfExport sections bytes fault e size means = IsOfRow bytes fault e (λ h. h.export_count) (λ h. export_refusal bytes h sections) Entry (λ h. table.entry_of (export_table bytes h) e) size means

-- the place of a refusal is that of what is refused. A header that is too short is refused as a whole
abbrev pub IsPlaced : ℕ → List ℕ → LoaderFault → Type 0
IsPlaced sections bytes LoaderShort = (header_of bytes ≡ None) × (fault_offset bytes LoaderShort ≡ Some 0)
IsPlaced sections bytes BadTableOffset = IsOfHeader bytes BadTableOffset (λ h. length bytes < tables_end h) (λ h n. n ≡ h.library_count)
IsPlaced sections bytes (BadName (row.Library i)) = IsOfLibrary bytes (BadName (row.Library i)) i (λ e n. n ≡ e.name)
IsPlaced sections bytes (BadName (row.Import j)) = IsOfImport bytes (BadName (row.Import j)) j (λ e n. n % 2 ^ 24 ≡ e.name)
IsPlaced sections bytes (BadName (row.Export e)) = IsOfExport sections bytes (BadName (row.Export e)) e 4 (λ x n. n % 2 ^ 24 ≡ x.name)
IsPlaced sections bytes (BadLibraryRange i) = IsOfLibrary bytes (BadLibraryRange i) i (λ e n. n ≡ e.fields.first)
IsPlaced sections bytes (OrphanImport j) = IsOfImport bytes (OrphanImport j) j (λ e n. n % 2 ^ 24 ≡ e.name)
IsPlaced sections bytes (BadEntry Main) = IsOfHeader bytes (BadEntry Main) (λ h. first_met (entry_tests sections h) ≡ Some (BadEntry Main)) (λ h n. cast_signed w32 n ≡ h.main_section)
IsPlaced sections bytes (BadEntry Init) = IsOfHeader bytes (BadEntry Init) (λ h. first_met (entry_tests sections h) ≡ Some (BadEntry Init)) (λ h n. cast_signed w32 n ≡ h.init_section)
IsPlaced sections bytes (BadEntry Term) = IsOfHeader bytes (BadEntry Term) (λ h. first_met (entry_tests sections h) ≡ Some (BadEntry Term)) (λ h n. cast_signed w32 n ≡ h.term_section)
IsPlaced sections bytes (BadRelocSection k) = IsOfRelocation sections bytes (BadRelocSection k) k 2 (λ e n. n ≡ e.section)
IsPlaced sections bytes (RelocOutside k) = IsOfRelocation sections bytes (RelocOutside k) k 4 (λ e n. n ≡ e.count)
IsPlaced sections bytes BadExportTable = IsOfHeader bytes BadExportTable (λ h. has_exports bytes h ≡ false) (λ h n. n ≡ h.export_hash_offset)
IsPlaced sections bytes (BadExportSection e) = IsOfExport sections bytes (BadExportSection e) e 2 (λ x n. cast_signed w16 n ≡ x.fields.section)

abbrev pub RefusalsHavePlaces : Type 0
RefusalsHavePlaces = (sections : ℕ) (bytes : List ℕ) (fault : LoaderFault) → length bytes < 2 ^ 64 → loaded_of sections bytes ≡ Err fault → IsPlaced sections bytes fault
