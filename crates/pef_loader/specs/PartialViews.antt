-- What the views show of a loader section that may be damaged, without addresses in memory.
use Rattle.std.specs.Prelude.{ℕ, List, Option, option_map}
use Rattle.std.specs.Option.{option_copied}
use Rattle.std.specs.Borrow.{Bor}
use Rattle.pef_format.specs.Rows.{named}
use Rattle.pef_format.specs.Symbols.{import_named}
use Rattle.pef_format.specs.declared.export.ExportFields.{ExportFields}
use Rattle.pef_format.specs.declared.import.Imported.{Imported}
use Rattle.pef_format.specs.declared.library.LibraryFields.{LibraryFields}
use Rattle.pef_format.specs.declared.named.Named.{Named}
use Rattle.pef_views.specs.Partial.{sections_allowed}
use Rattle.pef_views.specs.PartialViews.{partly}
use Rattle.pef_loader.specs.declared.cut_name.CutName as code
use Rattle.pef_loader.specs.declared.cut_name.Names.{Names}
use Rattle.pef_loader.specs.declared.partial.PartialLoader.{PartialLoader}
use Rattle.pef_loader.specs.declared.partial.PartialRelocation.{PartialRelocation}
use Rattle.pef_loader.specs.CutNames.{CutName}
use Rattle.pef_loader.specs.Loader.{Loaded}
use Rattle.pef_loader.specs.Partial.{CutExportRow, CutImportRow, CutLibraryRow, ExportRow, ImportRow, LibraryRow, RelocationRow}

-- the loader section that a view shows
abbrev pub partly_loaded : PartialLoader → Loaded
partly_loaded p = record { sections = sections_allowed (partly p.container); bytes = p.tables.cut.bytes.now; header = p.tables.header }

abbrev pub library_seen : Named LibraryFields (Option (Bor (List ℕ))) → LibraryRow
library_seen v = named option_copied v

abbrev pub import_seen : Imported (Option (Bor (List ℕ))) (Option ℕ) → ImportRow
import_seen v = import_named option_copied v

abbrev pub relocation_seen : PartialRelocation → RelocationRow
relocation_seen v = record { section = v.section; count = v.count; first = v.first; program = option_copied v.program }

abbrev pub export_seen : Named ExportFields (Option (Bor (List ℕ))) → ExportRow
export_seen v = named option_copied v

-- a name that may be cut
abbrev pub cut_seen : code.CutName → CutName
cut_seen v = record { bytes = v.bytes.now; whole = v.whole }

-- the bytes whose names these are
abbrev pub names_bytes : Names → List ℕ
names_bytes n = n.cut.bytes.now

abbrev pub cut_library_seen : Named LibraryFields (Option code.CutName) → CutLibraryRow
cut_library_seen v = named (option_map cut_seen) v

abbrev pub cut_import_seen : Imported (Option code.CutName) (Option ℕ) → CutImportRow
cut_import_seen v = import_named (option_map cut_seen) v

abbrev pub cut_export_seen : Named ExportFields (Option code.CutName) → CutExportRow
cut_export_seen v = named (option_map cut_seen) v
