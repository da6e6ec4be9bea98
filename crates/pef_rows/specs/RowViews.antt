-- The line and the object of a row that was read.
use Rattle.std.specs.Prelude.{ℕ, List, [], codes}
use Rattle.std.specs.Option.{option_map}
use Rattle.pef_loader.specs.PartialViews.{cut_export_seen, cut_import_seen, cut_library_seen, cut_seen}
use Rattle.pef_rows.specs.Lines.{entry_line, export_line, header_line, import_line, library_line, loader_line, relocation_line, section_line}
use Rattle.pef_rows.specs.Objects.{entry_object, export_object, header_object, import_object, library_object, loader_object, section_object}
use Rattle.pef_rows.specs.Programs.{Program, relocation_object}
use Rattle.pef_rows.specs.declared.any_row.Row.{Row}
use Rattle.pef_rows.specs.declared.any_row.Row.TheVariants as row
use Rattle.pef_rows.specs.declared.rows.ProgramRow.{ProgramRow}

abbrev pub program_seen : ProgramRow → Program
program_seen p = record { at = p.at; bytes = p.bytes.now }

abbrev pub line_of : Row → List ℕ
line_of (row.Header r) = header_line r.at r.header
line_of (row.Section r) = section_line r.at r.number r.header (option_map cut_seen r.name) r.raw
line_of (row.Loader r) = loader_line r.at r.header
line_of (row.Library r) = library_line r.at (cut_library_seen r.library)
line_of (row.Import r) = import_line r.at r.number (cut_import_seen r.import) (option_map cut_seen r.library_name)
line_of (row.Main r) = entry_line (codes " main ") r.at r.section r.offset
line_of (row.Init r) = entry_line (codes " init ") r.at r.section r.offset
line_of (row.Term r) = entry_line (codes " term ") r.at r.section r.offset
line_of (row.Relocation r) = relocation_line r.at r.section r.count r.first
line_of (row.Export r) = export_line r.at (cut_export_seen r.export)

abbrev pub object_of : Row → List ℕ
object_of (row.Header r) = header_object r.header
object_of (row.Section r) = section_object r.at r.header (option_map cut_seen r.name) r.raw
object_of (row.Loader r) = loader_object r.at r.header
object_of (row.Library r) = library_object r.at (cut_library_seen r.library)
object_of (row.Import r) = import_object r.at (cut_import_seen r.import)
object_of (row.Main r) = entry_object [] r.at r.section r.offset
object_of (row.Init r) = entry_object [] r.at r.section r.offset
object_of (row.Term r) = entry_object [] r.at r.section r.offset
object_of (row.Relocation r) = relocation_object r.at r.section r.count r.first (option_map program_seen r.program)
object_of (row.Export r) = export_object r.at (cut_export_seen r.export)
