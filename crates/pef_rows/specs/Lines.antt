-- The lines of rows. Each begins with the offset in the file of the row. The words of a listing follow
-- (docs/FORMATS.md, "Listings"), and then what a listing leaves out.
use Rattle.std.specs.Prelude.{ℕ, ℤ, pos, negsuc, ◌==◌, Bool, false, List, [], ◌∷◌, ◌++◌, Option, None, Some, codes, decimal, if◌then◌else◌}
use Rattle.std.specs.Str.{bytes_eq}
use Rattle.byteorder.specs.Endian.{big_bytes}
use Rattle.pef_listing.specs.Listing.{export_words, import_words, library_words, magnitude, sign_text}
use Rattle.pef_loader.specs.CutNames.{CutName}
use Rattle.pef_loader.specs.Partial.{CutExportRow, CutImportRow, CutLibraryRow}
use Rattle.pef_loader.specs.declared.header.LoaderHeader.{LoaderHeader}
use Rattle.pef_ports.specs.Names.{name_text}
use Rattle.pef_ports.specs.Text.{word_text}
use Rattle.pef_rows.specs.Dates.{date_text}
use Rattle.pef_rows.specs.Tokens.{at_text, label_column}
use Rattle.pef_rows.specs.Versions.{version_text}
use Rattle.pef_views.specs.declared.header.Header.{Header}
use Rattle.pef_views.specs.declared.section.SectionHeader.{SectionHeader}

-- a name, or `?` for one that can't be read
abbrev pub name_or_mark : Option CutName → List ℕ
name_or_mark None = codes "?"
name_or_mark (Some name) = label_column name.bytes

-- the name of a section as a listing has it: `-` for none, and a name `-` with its byte escaped
abbrev pub section_label : Option CutName → List ℕ
section_label None = codes "-"
section_label (Some name) = if bytes_eq name.bytes (codes "-") then codes "%2D" else label_column name.bytes

-- -1, the section of an entry point that isn't there
abbrev pub is_none_entry : ℤ → Bool
is_none_entry (pos n) = false
is_none_entry (negsuc n) = n == 0

-- a container's header: the words of a listing, the versions and the date as people write them, and the counts of sections
unfoldable pub header_words : ℕ → Header → List ℕ
header_words at h =
    at_text at ++ codes " container current " ++ decimal h.current_version ++ codes " olddef "
    ++ decimal h.old_def_version ++ codes " oldimp " ++ decimal h.old_imp_version ++ codes " date "
    ++ decimal h.date_time_stamp ++ codes " versions " ++ version_text h.current_version ++ codes " "
    ++ version_text h.old_def_version ++ codes " " ++ version_text h.old_imp_version ++ codes " time "
    ++ date_text h.date_time_stamp ++ codes " sections " ++ decimal h.section_count ++ codes " instantiated "
    ++ decimal h.instantiated_section_count

-- .. and then the architecture
unfoldable pub architecture_end : ℕ → List ℕ
architecture_end n = codes " architecture " ++ name_text (big_bytes 4 n) ++ codes "\n"

unfoldable pub header_line : ℕ → Header → List ℕ
header_line at h = header_words at h ++ architecture_end h.architecture

-- section `number`: the words of a listing, and where its raw bytes begin in the file
unfoldable pub section_line : ℕ → ℕ → SectionHeader → Option CutName → ℕ → List ℕ
section_line at number h name raw =
    at_text at ++ codes " section " ++ decimal number ++ codes " kind " ++ decimal h.section_kind
    ++ codes " share " ++ decimal h.share_kind ++ codes " align " ++ decimal h.alignment ++ codes " total "
    ++ decimal h.total_size ++ codes " unpacked " ++ decimal h.unpacked_size ++ codes " packed "
    ++ decimal h.packed_size ++ codes " default " ++ word_text h.default_address ++ codes " name "
    ++ section_label name ++ codes " raw " ++ at_text raw ++ codes "\n"

-- a loader header
unfoldable pub loader_line : ℕ → LoaderHeader → List ℕ
loader_line at h =
    at_text at ++ codes " loader libraries " ++ decimal h.library_count ++ codes " imports "
    ++ decimal h.import_count ++ codes " relocs " ++ decimal h.reloc_count ++ codes " programs "
    ++ word_text h.reloc_instr_offset ++ codes " strings " ++ word_text h.strings_offset ++ codes " hash "
    ++ word_text h.export_hash_offset ++ codes " power " ++ decimal h.export_power ++ codes " exports "
    ++ decimal h.export_count ++ codes "\n"

-- a library: the words of a listing, its versions, and its imports
unfoldable pub library_line : ℕ → CutLibraryRow → List ℕ
library_line at library =
    at_text at ++ codes " " ++ library_words (name_or_mark library.name) library.fields
    ++ codes " versions " ++ version_text library.fields.current ++ codes " " ++ version_text library.fields.old_imp ++ codes " imports "
    ++ decimal library.fields.count ++ codes " from " ++ decimal library.fields.first ++ codes "\n"

-- import `number`, with the name of its library: the words of a listing
unfoldable pub import_line : ℕ → ℕ → CutImportRow → Option CutName → List ℕ
import_line at number import library_name =
    at_text at ++ codes " " ++ import_words number (name_or_mark import.name) (name_or_mark library_name) import.fields ++ codes "\n"

-- the line of an entry point after its label, if the section isn't -1
unfoldable pub entry_line : List ℕ → ℕ → ℤ → ℕ → List ℕ
entry_line label at section offset =
    if is_none_entry section then [] else
    (at_text at ++ label ++ sign_text section ++ decimal (magnitude section) ++ codes " " ++ word_text offset
    ++ codes "\n")

-- a relocation header
unfoldable pub relocation_line : ℕ → ℕ → ℕ → ℕ → List ℕ
relocation_line at section count first =
    at_text at ++ codes " reloc section " ++ decimal section ++ codes " halfwords " ++ decimal count
    ++ codes " first " ++ decimal first ++ codes "\n"

-- an export: the words of a listing
unfoldable pub export_line : ℕ → CutExportRow → List ℕ
export_line at export = at_text at ++ codes " " ++ export_words (name_or_mark export.name) export.fields ++ codes "\n"
