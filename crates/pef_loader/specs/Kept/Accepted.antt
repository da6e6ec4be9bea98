-- A loader section part by part.
use Rattle.std.specs.Prelude.{◌≡◌, not, length, None, Some, nat_lt}
use Rattle.pef_words.specs.Refusals.{first_among, first_met}
use Rattle.pef_loader.specs.declared.fault.LoaderFault.TheVariants.{BadTableOffset, BadExportTable}
use Rattle.pef_loader.specs.Header.{header_of, tables_end}
use Rattle.pef_loader.specs.Library.{library_refusal}
use Rattle.pef_loader.specs.Import.{import_refusal}
use Rattle.pef_loader.specs.Reloc.{reloc_refusal}
use Rattle.pef_loader.specs.Export.{export_refusal, has_exports}
use Rattle.pef_loader.specs.Loader.{Loaded, entry_tests, fault_if}

-- `IsLoader` part by part: there is a header, and no test fails
pub record IsAccepted (l : Loaded) : Type 0 where
  pub header : header_of l.bytes ≡ Some l.header
  pub tables : fault_if (nat_lt (length l.bytes) (tables_end l.header)) BadTableOffset ≡ None
  pub libraries : first_among (library_refusal l.bytes l.header) 0 l.header.library_count ≡ None
  pub imports : first_among (import_refusal l.bytes l.header) 0 l.header.import_count ≡ None
  pub entries : first_met (entry_tests l.sections l.header) ≡ None
  pub relocs : first_among (reloc_refusal l.bytes l.header l.sections) 0 l.header.reloc_count ≡ None
  pub table : fault_if (not (has_exports l.bytes l.header)) BadExportTable ≡ None
  pub exports : first_among (export_refusal l.bytes l.header l.sections) 0 l.header.export_count ≡ None
