-- The rows of a container that may be damaged, as far as each can be read, and their lines and objects.
use Rattle.std.specs.Prelude.{ℕ, ◌-◌, ◌/◌, min, List, [], codes, length, nat_lt, Option, None, Some, option_map, if◌then◌else◌}
use Rattle.std.specs.Option.{option_and_then, option_map_or}
use Rattle.std.specs.Result.{result_ok}
use Rattle.pef_words.specs.Refusals.{◌>>=◌}
use Rattle.pef_format.specs.declared.place.Part.{Part}
use Rattle.pef_format.specs.declared.place.Part.TheVariants as part
use Rattle.pef_views.specs.Container.{Contained}
use Rattle.pef_views.specs.Partial as views
use Rattle.pef_format.specs.Rows.{named}
use Rattle.pef_loader.specs.Header.{imports_from, library_place, relocs_from}
use Rattle.pef_loader.specs.Loader.{Loaded}
use Rattle.pef_loader.specs.CutNames.{CutName}
use Rattle.pef_loader.specs.Partial.{CutImportRow, CutLibraryRow, cut_import_row, cut_library_row, export_row, exports_in, partial_of, relocation_row, rows_in}
use Rattle.pef_loader.specs.Places.{place_of}
use Rattle.pef_rows.specs.Findings.{file_offset}
use Rattle.pef_rows.specs.Lines.{entry_line, export_line, header_line, import_line, library_line, loader_line, relocation_line, section_line}
use Rattle.pef_rows.specs.Objects.{entry_object, export_object, header_object, import_object, library_object, loader_object, section_object}
use Rattle.pef_rows.specs.Programs.{Program, relocation_object}
use Rattle.pef_rows.specs.Tokens.{row_name}

-- what can be read of some bytes of a file, from an offset on: a container, its loader section, and how many of its
-- relocation programs are printed
pub record Readable : Type 0 where
  pub base : ℕ
  pub container : Option Contained
  pub loader : Option Loaded
  pub programs : ℕ

abbrev pub loader_in : Contained → Option Loaded
loader_in c = result_ok (partial_of (views.sections_allowed c) c.loader)

unfoldable pub readable_at : ℕ → List ℕ → ℕ → Readable
readable_at base bytes programs =
    let container = result_ok (views.partial_of bytes) in
    record { base = base; container = container; loader = option_and_then loader_in container; programs = programs }

-- how many rows of each kind can be read: a row can be if its bytes are there

abbrev pub sections_in : Contained → ℕ
sections_in c = min ((length c.bytes - 40) / 28) c.header.section_count

abbrev pub loader_count : Part → Loaded → ℕ
loader_count part.LoaderHeader l = 1
loader_count part.Library l = rows_in l (library_place 0) 24 l.header.library_count
loader_count part.Import l = rows_in l (imports_from l.header) 4 l.header.import_count
loader_count part.Main l = 1
loader_count part.Init l = 1
loader_count part.Term l = 1
loader_count part.Relocation l = rows_in l (relocs_from l.header) 12 l.header.reloc_count
loader_count part.Export l = exports_in l
loader_count part.Header l = 0
loader_count part.Section l = 0
loader_count part.PackedData l = 0
loader_count part.Program l = 0
loader_count part.Line l = 0

unfoldable pub row_count : Readable → Part → ℕ
row_count r part.Header = option_map_or (λ c. 1) r.container 0
row_count r part.Section = option_map_or sections_in r.container 0
row_count r kind = option_map_or (loader_count kind) r.loader 0

-- the offset in the file of row i of a kind
abbrev pub row_offset : Readable → Contained → Part → ℕ → ℕ
row_offset r c kind i = file_offset r.base (place_of c kind i 0).offset

-- the offset in the file of an import, of a container that begins at `base`
abbrev pub import_offset : ℕ → Contained → ℕ → ℕ
import_offset base c j = file_offset base (place_of c part.Import j 0).offset

-- the program of relocation header k, if it is printed and its bytes are there
abbrev pub program_in : Readable → Contained → ℕ → Option (List ℕ) → Option Program
program_in r c k bytes =
    if nat_lt k r.programs then option_map (λ b. record { at = row_offset r c part.Program k; bytes = b }) bytes else None

abbrev pub program_of : Readable → ℕ → Option Program
program_of r k = r.container >>= (λ c. r.loader >>= (λ l. relocation_row l k >>= (λ row. program_in r c k row.program)))

-- a library and an import, with their names as far as these are looked at
abbrev pub library_shown : Loaded → ℕ → Option CutLibraryRow
library_shown l i = cut_library_row 4096 l i

abbrev pub import_shown : Loaded → ℕ → Option CutImportRow
import_shown l j = cut_import_row 4096 l j

-- the name of an import's library
abbrev pub library_name : Loaded → Option ℕ → Option CutName
library_name l library = library >>= (λ i. library_shown l i >>= (λ (row : CutLibraryRow). row.name))

-- the lines of rows

abbrev pub header_row_line : Readable → Option (List ℕ)
header_row_line r = r.container >>= (λ c. Some (header_line (row_offset r c part.Header 0) c.header))

abbrev pub section_row_line : Readable → ℕ → Option (List ℕ)
section_row_line r i = r.container >>= (λ c. views.header_in c i >>= (λ s.
    Some (section_line (row_offset r c part.Section i) i s (row_name (views.name_of_section c i)) (file_offset r.base (Some s.container_offset)))))

abbrev pub loader_row_line : Readable → Option (List ℕ)
loader_row_line r = r.container >>= (λ c. r.loader >>= (λ l.
    Some (loader_line (row_offset r c part.LoaderHeader 0) l.header)))

abbrev pub library_row_line : Readable → ℕ → Option (List ℕ)
library_row_line r i = r.container >>= (λ c. r.loader >>= (λ l. library_shown l i >>= (λ row.
    Some (library_line (row_offset r c part.Library i) row))))

abbrev pub import_line_in : Loaded → ℕ → ℕ → Option (List ℕ)
import_line_in l at j = import_shown l j >>= (λ row. Some (import_line at j row (library_name l row.library)))

abbrev pub import_row_line : Readable → ℕ → Option (List ℕ)
import_row_line r j = r.container >>= (λ c. r.loader >>= (λ l. import_line_in l (row_offset r c part.Import j) j))

abbrev pub main_row_line : Readable → Option (List ℕ)
main_row_line r = r.container >>= (λ c. r.loader >>= (λ l.
    Some (entry_line (codes " main ") (row_offset r c part.Main 0) l.header.main_section l.header.main_offset)))

abbrev pub init_row_line : Readable → Option (List ℕ)
init_row_line r = r.container >>= (λ c. r.loader >>= (λ l.
    Some (entry_line (codes " init ") (row_offset r c part.Init 0) l.header.init_section l.header.init_offset)))

abbrev pub term_row_line : Readable → Option (List ℕ)
term_row_line r = r.container >>= (λ c. r.loader >>= (λ l.
    Some (entry_line (codes " term ") (row_offset r c part.Term 0) l.header.term_section l.header.term_offset)))

abbrev pub relocation_row_line : Readable → ℕ → Option (List ℕ)
relocation_row_line r k = r.container >>= (λ c. r.loader >>= (λ l. relocation_row l k >>= (λ row.
    Some (relocation_line (row_offset r c part.Relocation k) row.section row.count row.first))))

abbrev pub export_row_line : Readable → ℕ → Option (List ℕ)
export_row_line r i = r.container >>= (λ c. r.loader >>= (λ l. export_row l i >>= (λ row.
    Some (export_line (row_offset r c part.Export i) (named row_name row)))))

-- the line of row i of a kind, if it can be read
unfoldable pub line_at : Readable → Part → ℕ → Option (List ℕ)
line_at r part.Header i = header_row_line r
line_at r part.Section i = section_row_line r i
line_at r part.LoaderHeader i = loader_row_line r
line_at r part.Library i = library_row_line r i
line_at r part.Import i = import_row_line r i
line_at r part.Main i = main_row_line r
line_at r part.Init i = init_row_line r
line_at r part.Term i = term_row_line r
line_at r part.Relocation i = relocation_row_line r i
line_at r part.Export i = export_row_line r i
line_at r part.PackedData i = None
line_at r part.Program i = None
line_at r part.Line i = None

-- the objects of rows

abbrev pub header_row_object : Readable → Option (List ℕ)
header_row_object r = r.container >>= (λ c. Some (header_object c.header))

abbrev pub section_row_object : Readable → ℕ → Option (List ℕ)
section_row_object r i = r.container >>= (λ c. views.header_in c i >>= (λ s.
    Some (section_object (row_offset r c part.Section i) s (row_name (views.name_of_section c i)) (file_offset r.base (Some s.container_offset)))))

abbrev pub loader_row_object : Readable → Option (List ℕ)
loader_row_object r = r.container >>= (λ c. r.loader >>= (λ l.
    Some (loader_object (row_offset r c part.LoaderHeader 0) l.header)))

abbrev pub library_row_object : Readable → ℕ → Option (List ℕ)
library_row_object r i = r.container >>= (λ c. r.loader >>= (λ l. library_shown l i >>= (λ row.
    Some (library_object (row_offset r c part.Library i) row))))

abbrev pub import_object_in : Loaded → ℕ → ℕ → Option (List ℕ)
import_object_in l at j = import_shown l j >>= (λ row. Some (import_object at row))

abbrev pub import_row_object : Readable → ℕ → Option (List ℕ)
import_row_object r j = r.container >>= (λ c. r.loader >>= (λ l. import_object_in l (row_offset r c part.Import j) j))

abbrev pub main_row_object : Readable → Option (List ℕ)
main_row_object r = r.container >>= (λ c. r.loader >>= (λ l.
    Some (entry_object [] (row_offset r c part.Main 0) l.header.main_section l.header.main_offset)))

abbrev pub init_row_object : Readable → Option (List ℕ)
init_row_object r = r.container >>= (λ c. r.loader >>= (λ l.
    Some (entry_object [] (row_offset r c part.Init 0) l.header.init_section l.header.init_offset)))

abbrev pub term_row_object : Readable → Option (List ℕ)
term_row_object r = r.container >>= (λ c. r.loader >>= (λ l.
    Some (entry_object [] (row_offset r c part.Term 0) l.header.term_section l.header.term_offset)))

abbrev pub relocation_row_object : Readable → ℕ → Option (List ℕ)
relocation_row_object r k = r.container >>= (λ c. r.loader >>= (λ l. relocation_row l k >>= (λ row.
    Some (relocation_object (row_offset r c part.Relocation k) row.section row.count row.first (program_in r c k row.program)))))

abbrev pub export_row_object : Readable → ℕ → Option (List ℕ)
export_row_object r i = r.container >>= (λ c. r.loader >>= (λ l. export_row l i >>= (λ row.
    Some (export_object (row_offset r c part.Export i) (named row_name row)))))

-- the object of row i of a kind, if it can be read
unfoldable pub object_at : Readable → Part → ℕ → Option (List ℕ)
object_at r part.Header i = header_row_object r
object_at r part.Section i = section_row_object r i
object_at r part.LoaderHeader i = loader_row_object r
object_at r part.Library i = library_row_object r i
object_at r part.Import i = import_row_object r i
object_at r part.Main i = main_row_object r
object_at r part.Init i = init_row_object r
object_at r part.Term i = term_row_object r
object_at r part.Relocation i = relocation_row_object r i
object_at r part.Export i = export_row_object r i
object_at r part.PackedData i = None
object_at r part.Program i = None
object_at r part.Line i = None
