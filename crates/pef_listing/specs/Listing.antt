-- The listing of a container (docs/FORMATS.md, "Listings"): a line for each thing in it, in this order: its header, its
-- sections, libraries, imports and entries, each relocation header with its instructions, its exports. Numbers are
-- decimal. Options, offsets, addresses and values are upper-case hex.
use Rattle.std.specs.Prelude.{ℕ, ℤ, pos, negsuc, zero, suc, ◌+◌, Bool, List, [], ◌∷◌, ◌++◌, Option, None, Some, codes, decimal, if◌then◌else◌, length, ◌/◌}
use Rattle.std.specs.Option.{option_map_or}
use Rattle.std.specs.Str.{bytes_eq}
use Rattle.pef_format.specs.Exports.{Export}
use Rattle.pef_format.specs.Symbols.{Import}
use Rattle.pef_views.specs.Container.{Contained, Section, section_of, section_name_of}
use Rattle.pef_views.specs.declared.header.Header.{Header}
use Rattle.pef_format.specs.declared.export.ExportFields.{ExportFields}
use Rattle.pef_format.specs.declared.import.ImportFields.{ImportFields}
use Rattle.pef_format.specs.declared.library.LibraryFields.{LibraryFields}
use Rattle.pef_loader.specs.Library.{Library}
use Rattle.pef_loader.specs.Loader.{Loaded, export_of, import_of, init_of, library_of, main_of, reloc_of, term_of}
use Rattle.pef_reloc.specs.Unrolled.{instrs_of}
use Rattle.pef_ports.specs.Names.{name_text}
use Rattle.pef_ports.specs.Text.{hex_text, word_text}
use Rattle.pef_listing.specs.Instructions.{program_text}

-- the texts of the n things from one on
abbrev pub each_text : (ℕ → List ℕ) → ℕ → ℕ → List ℕ
each_text text from zero = []
each_text text from (suc n) = text from ++ each_text text (from + 1) n

-- the line of the container's header: its versions, and its date in seconds since the first of January 1904
unfoldable pub container_text : Header → List ℕ
container_text h =
    codes "container current " ++ decimal h.current_version
    ++ codes " olddef " ++ decimal h.old_def_version
    ++ codes " oldimp " ++ decimal h.old_imp_version
    ++ codes " date " ++ decimal h.date_time_stamp ++ codes "\n"

-- a section's name; `-` means none, so the name `-` is escaped
unfoldable pub section_name_text : Option (List ℕ) → List ℕ
section_name_text None = codes "-"
section_name_text (Some name) = if bytes_eq name (codes "-") then codes "%2D" else name_text name

-- the line of section i
unfoldable pub section_text : ℕ → Section → Option (List ℕ) → List ℕ
section_text i s name =
    codes "section " ++ decimal i
    ++ codes " kind " ++ decimal s.header.section_kind
    ++ codes " share " ++ decimal s.header.share_kind
    ++ codes " align " ++ decimal s.header.alignment
    ++ codes " total " ++ decimal s.header.total_size
    ++ codes " unpacked " ++ decimal s.header.unpacked_size
    ++ codes " packed " ++ decimal s.header.packed_size
    ++ codes " default " ++ word_text s.header.default_address
    ++ codes " name " ++ section_name_text name ++ codes "\n"

-- the words of a library's line, with its options in two hex digits
unfoldable pub library_words : List ℕ → LibraryFields → List ℕ
library_words name fields =
    codes "library " ++ name
    ++ codes " current " ++ decimal fields.current
    ++ codes " oldimp " ++ decimal fields.old_imp
    ++ codes " options " ++ hex_text (fields.options ∷ [])

-- the line of a library
unfoldable pub library_text : Library → List ℕ
library_text l = library_words (name_text l.name) l.fields ++ codes "\n"

-- `weak` for an import that may be missing, otherwise `strong`
abbrev pub strength_text : Bool → List ℕ
strength_text weak = if weak then codes " weak" else codes " strong"

-- the words of the line of import j
unfoldable pub import_words : ℕ → List ℕ → List ℕ → ImportFields → List ℕ
import_words j name library fields =
    codes "import " ++ decimal j ++ codes " " ++ name
    ++ codes " of " ++ library
    ++ codes " class " ++ decimal fields.class ++ strength_text fields.weak

-- the line of import j, with the name of its library
unfoldable pub import_text : ℕ → Import → List ℕ → List ℕ
import_text j i library = import_words j (name_text i.name) (name_text library) i.fields ++ codes "\n"

-- the line of an entry that the container has: its section and its offset
abbrev pub entry_text : List ℕ → Option (ℕ × ℕ) → List ℕ
entry_text label None = []
entry_text label (Some e) = label ++ decimal e.0 ++ codes " " ++ word_text e.1 ++ codes "\n"

-- the sign of a section's number, and the number without it
abbrev pub sign_text : ℤ → List ℕ
sign_text (pos n) = []
sign_text (negsuc n) = codes "-"

abbrev pub magnitude : ℤ → ℕ
magnitude (pos n) = n
magnitude (negsuc n) = n + 1

-- the number of the section of an export
abbrev pub section_number_text : ℤ → List ℕ
section_number_text n = sign_text n ++ decimal (magnitude n)

-- the words of an export's line
unfoldable pub export_words : List ℕ → ExportFields → List ℕ
export_words name fields =
    codes "export " ++ name
    ++ codes " class " ++ decimal fields.class
    ++ codes " section " ++ section_number_text fields.section
    ++ codes " value " ++ word_text fields.value

-- the line of an export
unfoldable pub export_text : Export → List ℕ
export_text e = export_words (name_text e.name) e.fields ++ codes "\n"

-- the line of a relocation header: its section and its count of halfwords
abbrev pub reloc_header_text : ℕ × List ℕ → List ℕ
reloc_header_text r = codes "reloc section " ++ decimal r.0 ++ codes " halfwords " ++ decimal (length r.1 / 2) ++ codes "\n"

-- the lines of a relocation header: its own, then its instructions
unfoldable pub reloc_text : ℕ × List ℕ → List ℕ
reloc_text r = reloc_header_text r ++ program_text (instrs_of r.1)

-- the lines of the parts with a number, none past the last one of each kind
unfoldable pub section_lines : Contained → ℕ → List ℕ
section_lines c i = option_map_or (λ s. section_text i s (section_name_of c i)) (section_of c i) []

unfoldable pub library_lines : Loaded → ℕ → List ℕ
library_lines l i = option_map_or library_text (library_of l i) []

abbrev pub library_name : Loaded → ℕ → List ℕ
library_name l i = option_map_or (λ library. library.name) (library_of l i) []

unfoldable pub import_lines : Loaded → ℕ → List ℕ
import_lines l j = option_map_or (λ i. import_text j i (library_name l i.library)) (import_of l j) []

unfoldable pub reloc_lines : Loaded → ℕ → List ℕ
reloc_lines l k = option_map_or reloc_text (reloc_of l k) []

unfoldable pub export_lines : Loaded → ℕ → List ℕ
export_lines l i = option_map_or export_text (export_of l i) []

-- what the container is: its header and its sections
abbrev pub container_lines : Contained → List ℕ
container_lines c = container_text c.header ++ each_text (section_lines c) 0 c.header.section_count

-- what the container needs: its libraries and its imports
abbrev pub imported_lines : Loaded → List ℕ
imported_lines l = each_text (library_lines l) 0 l.header.library_count ++ each_text (import_lines l) 0 l.header.import_count

-- where the container is entered
abbrev pub entries_lines : Loaded → List ℕ
entries_lines l = entry_text (codes "main ") (main_of l) ++ entry_text (codes "init ") (init_of l) ++ entry_text (codes "term ") (term_of l)

-- the listing of a container: what it is, what it needs, where it is entered, how it is relocated, what it exports
abbrev pub listing_text : Contained → Loaded → List ℕ
listing_text c l =
    container_lines c ++ imported_lines l ++ entries_lines l
    ++ each_text (reloc_lines l) 0 l.header.reloc_count
    ++ each_text (export_lines l) 0 l.header.export_count
