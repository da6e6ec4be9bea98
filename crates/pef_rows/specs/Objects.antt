-- The objects of JSON of rows.
use Rattle.std.specs.Prelude.{ℕ, ℤ, Bool, List, [], ◌++◌, Option, codes, decimal, if◌then◌else◌}
use Rattle.pef_format.specs.Sections.{kind_of, share_of}
use Rattle.pef_format.specs.Symbols.{class_of}
use Rattle.pef_format.specs.declared.library.LibraryFields.{LibraryFields}
use Rattle.pef_listing.specs.Listing.{magnitude, sign_text}
use Rattle.pef_loader.specs.CutNames.{CutName}
use Rattle.pef_loader.specs.Partial.{CutExportRow, CutImportRow, CutLibraryRow}
use Rattle.pef_loader.specs.declared.header.LoaderHeader.{LoaderHeader}
use Rattle.pef_rows.specs.Codes.{class_member, kind_text, share_text}
use Rattle.pef_rows.specs.Dates.{date_text}
use Rattle.pef_rows.specs.Lines.{is_none_entry}
pub use Rattle.pef_rows.specs.Tokens.{number_or_null}
use Rattle.pef_rows.specs.Tokens.{row_member, tag_text, truth}
use Rattle.pef_rows.specs.Versions.{version_text}
use Rattle.pef_views.specs.declared.header.Header.{Header}
use Rattle.pef_views.specs.declared.section.SectionHeader.{SectionHeader}

-- what is between the members of a list
abbrev pub separator : Bool → List ℕ
separator is_first = if is_first then [] else codes ","

-- a container's header: its architecture and its versions
unfoldable pub header_versions : Header → List ℕ
header_versions h =
    codes "{\"architecture\":\"" ++ tag_text h.architecture ++ codes "\",\"format_version\":"
    ++ decimal h.format_version ++ codes ",\"current\":" ++ decimal h.current_version ++ codes ",\"current_text\":\""
    ++ version_text h.current_version ++ codes "\",\"olddef\":" ++ decimal h.old_def_version
    ++ codes ",\"olddef_text\":\"" ++ version_text h.old_def_version

-- .. its last version, its date and its counts
unfoldable pub header_counts : Header → List ℕ
header_counts h =
    codes "\",\"oldimp\":" ++ decimal h.old_imp_version ++ codes ",\"oldimp_text\":\"" ++ version_text h.old_imp_version
    ++ codes "\",\"date\":" ++ decimal h.date_time_stamp ++ codes ",\"date_text\":\"" ++ date_text h.date_time_stamp
    ++ codes "\",\"sections\":" ++ decimal h.section_count ++ codes ",\"instantiated\":"
    ++ decimal h.instantiated_section_count ++ codes ",\"reserved\":" ++ decimal h.reserved ++ codes "}"

unfoldable pub header_object : Header → List ℕ
header_object h = header_versions h ++ header_counts h

-- a section: what it is
unfoldable pub section_codes : ℕ → SectionHeader → List ℕ
section_codes at h =
    codes "{\"offset\":" ++ decimal at ++ codes ",\"kind\":" ++ decimal h.section_kind ++ codes ",\"kind_text\":"
    ++ kind_text (kind_of h.section_kind) ++ codes ",\"share\":" ++ decimal h.share_kind ++ codes ",\"share_text\":"
    ++ share_text (share_of h.share_kind)

-- .. its sizes, its bytes and its name
unfoldable pub section_sizes : SectionHeader → Option CutName → ℕ → List ℕ
section_sizes h name raw =
    codes ",\"align\":" ++ decimal h.alignment ++ codes ",\"total\":"
    ++ decimal h.total_size ++ codes ",\"unpacked\":" ++ decimal h.unpacked_size ++ codes ",\"packed\":"
    ++ decimal h.packed_size ++ codes ",\"default\":" ++ decimal h.default_address ++ codes ",\"raw\":"
    ++ decimal raw ++ codes "," ++ row_member (codes "name") name ++ codes "}"

unfoldable pub section_object : ℕ → SectionHeader → Option CutName → ℕ → List ℕ
section_object at h name raw = section_codes at h ++ section_sizes h name raw

-- a loader header
unfoldable pub loader_object : ℕ → LoaderHeader → List ℕ
loader_object at h =
    codes "{\"offset\":" ++ decimal at ++ codes ",\"libraries\":" ++ decimal h.library_count
    ++ codes ",\"imports\":" ++ decimal h.import_count ++ codes ",\"relocations\":" ++ decimal h.reloc_count
    ++ codes ",\"programs\":" ++ decimal h.reloc_instr_offset ++ codes ",\"strings\":"
    ++ decimal h.strings_offset ++ codes ",\"hash\":" ++ decimal h.export_hash_offset ++ codes ",\"power\":"
    ++ decimal h.export_power ++ codes ",\"exports\":" ++ decimal h.export_count ++ codes "}"

-- a library: its name and its versions
unfoldable pub library_versions : ℕ → CutLibraryRow → List ℕ
library_versions at library =
    codes "{\"offset\":" ++ decimal at ++ codes "," ++ row_member (codes "name") library.name ++ codes ",\"current\":"
    ++ decimal library.fields.current ++ codes ",\"current_text\":\"" ++ version_text library.fields.current ++ codes "\",\"oldimp\":"
    ++ decimal library.fields.old_imp ++ codes ",\"oldimp_text\":\"" ++ version_text library.fields.old_imp

-- .. its options and its imports
unfoldable pub library_imports : LibraryFields → List ℕ
library_imports fields =
    codes "\",\"options\":" ++ decimal fields.options ++ codes ",\"first\":" ++ decimal fields.first ++ codes ",\"count\":"
    ++ decimal fields.count ++ codes "}"

unfoldable pub library_object : ℕ → CutLibraryRow → List ℕ
library_object at library = library_versions at library ++ library_imports library.fields

-- an import, with the number of its library
unfoldable pub import_object : ℕ → CutImportRow → List ℕ
import_object at import =
    codes "{\"offset\":" ++ decimal at ++ codes "," ++ row_member (codes "name") import.name ++ codes ",\"library\":"
    ++ number_or_null import.library ++ codes ",\"class\":" ++ decimal import.fields.class ++ class_member (class_of import.fields.class)
    ++ codes ",\"weak\":" ++ truth import.fields.weak ++ codes "}"

-- an entry point after its key, or `null` if the section is -1
unfoldable pub entry_object : List ℕ → ℕ → ℤ → ℕ → List ℕ
entry_object label at section offset =
    if is_none_entry section then label ++ codes "null" else
    (label ++ codes "{\"offset\":" ++ decimal at ++ codes ",\"section\":" ++ sign_text section
    ++ decimal (magnitude section) ++ codes ",\"value\":" ++ decimal offset ++ codes "}")

-- a relocation header, up to its instructions
unfoldable pub relocation_front : ℕ → ℕ → ℕ → ℕ → List ℕ
relocation_front at section count first =
    codes "{\"offset\":" ++ decimal at ++ codes ",\"section\":" ++ decimal section ++ codes ",\"halfwords\":"
    ++ decimal count ++ codes ",\"first\":" ++ decimal first ++ codes ",\"instructions\":"

-- an export
unfoldable pub export_object : ℕ → CutExportRow → List ℕ
export_object at export =
    codes "{\"offset\":" ++ decimal at ++ codes "," ++ row_member (codes "name") export.name ++ codes ",\"class\":"
    ++ decimal export.fields.class ++ class_member (class_of export.fields.class)
    ++ codes ",\"section\":" ++ sign_text export.fields.section ++ decimal (magnitude export.fields.section)
    ++ codes ",\"value\":" ++ decimal export.fields.value ++ codes "}"
