-- Which bytes are written for some sections and a loader section (Mac OS Runtime Architectures, "PEF
-- Structure"). Where the raw bytes lie, and which optional fields are left empty, is this project's own
-- choice.
use Rattle.std.specs.Prelude.{◌≡◌, ℕ, ◌+◌, ◌*◌, negsuc, Some, List, [], ◌∷◌, ◌++◌, length, if◌then◌else◌}
use Rattle.std.specs.Int.{w32, cast_unsigned, next_multiple_of}
use Rattle.pef_format.specs.declared.section.SectionKind.TheVariants as kind
use Rattle.pef_format.specs.declared.section.Share.TheVariants as share
use Rattle.pef_format.specs.Sections.{is_packed, kind_code, share_code}
use Rattle.pef_pidata.specs.Packing.{packed_of}
use Rattle.pef_script.specs.declared.parts.Versions.{Versions}
use Rattle.pef_script.specs.Script.{DescribedSection}
use Rattle.pef_views.specs.declared.header.Header.{Header}
use Rattle.pef_views.specs.declared.section.SectionHeader.{SectionHeader}
use Rattle.pef_views.specs.Container.{Contained, Section, section_of}
use Rattle.pef_write.specs.declared.field.Field.{Field}
use Rattle.pef_write.specs.declared.field.Field.TheVariants.{Byte, Half, Word}
use Rattle.pef_write.specs.Fields.{padded, spelled}

-- the fields of the container header, in order (PEFContainerHeader of PEFBinaryFormat.h)
unfoldable pub header_fields : Header → List Field
header_fields h = Word h.tag_1
    ∷ Word h.tag_2
    ∷ Word h.architecture
    ∷ Word h.format_version
    ∷ Word h.date_time_stamp
    ∷ Word h.old_def_version
    ∷ Word h.old_imp_version
    ∷ Word h.current_version
    ∷ Half h.section_count
    ∷ Half h.instantiated_section_count
    ∷ Word h.reserved
    ∷ []

-- the fields of a section header, in order (PEFSectionHeader)
unfoldable pub section_fields : SectionHeader → List Field
section_fields s = Word (cast_unsigned w32 s.name_offset)
    ∷ Word s.default_address
    ∷ Word s.total_size
    ∷ Word s.unpacked_size
    ∷ Word s.packed_size
    ∷ Word s.container_offset
    ∷ Byte s.section_kind
    ∷ Byte s.share_kind
    ∷ Byte s.alignment
    ∷ Byte s.reserved
    ∷ []

-- the header of a container with n instantiated sections and a loader section: the tags are `Joy!` and
-- `peff`, the architecture is `pwpc`, and there is no time stamp
abbrev pub written_header : Versions → ℕ → Header
written_header v n = record {
  tag_1 = 0x4A6F7921;
  tag_2 = 0x70656666;
  architecture = 0x70777063;
  format_version = 1;
  date_time_stamp = 0;
  old_def_version = v.old_def;
  old_imp_version = v.old_imp;
  current_version = v.current;
  section_count = n + 1;
  instantiated_section_count = n;
  reserved = 0;
}

-- the raw bytes of a section: its image, packed if its kind is packed
abbrev pub raw_of : DescribedSection → List ℕ
raw_of s = if is_packed s.header.kind then packed_of s.image else s.image

-- the header of a section whose raw bytes are at a place, without a name
abbrev pub section_header : DescribedSection → ℕ → SectionHeader
section_header s at = record {
  name_offset = negsuc 0;
  default_address = 0;
  total_size = s.header.total;
  unpacked_size = length s.image;
  packed_size = length (raw_of s);
  container_offset = at;
  section_kind = kind_code s.header.kind;
  share_kind = share_code s.header.share;
  alignment = s.header.align;
  reserved = 0;
}

-- the header of a loader section of n bytes at a place
abbrev pub loader_header : ℕ → ℕ → SectionHeader
loader_header n at = record {
  name_offset = negsuc 0;
  default_address = 0;
  total_size = 0;
  unpacked_size = 0;
  packed_size = n;
  container_offset = at;
  section_kind = kind_code kind.Loader;
  share_kind = share_code share.Global;
  alignment = 4;
  reserved = 0;
}

-- the sections, if the first lies at a place and each later one at the next multiple of 16 after the one
-- before it
unfoldable pub laid_out : ℕ → List DescribedSection → List ℕ → List Section
laid_out at [] loader = record { header = loader_header (length loader) at; raw = loader } ∷ []
laid_out at (s ∷ sections) loader =
    record { header = section_header s at; raw = raw_of s } ∷ laid_out (at + next_multiple_of (length (raw_of s)) 16) sections loader

-- the headers of some sections, one after the other
unfoldable pub spelled_headers : List Section → List ℕ
spelled_headers [] = []
spelled_headers (s ∷ sections) = spelled (section_fields s.header) ++ spelled_headers sections

-- the raw bytes: those of the sections, with zeros up to a multiple of 16 after each, then the loader section
unfoldable pub raw_data : List DescribedSection → List ℕ → List ℕ
raw_data [] loader = loader
raw_data (s ∷ sections) loader = padded 16 (raw_of s) ++ raw_data sections loader

-- where the raw bytes of n sections begin: after the container header of 40 bytes and n + 1 section headers
-- of 28 bytes each
abbrev pub data_from : ℕ → ℕ
data_from n = next_multiple_of (40 + 28 * (n + 1)) 16

-- the sections of a container: these, then a loader section
unfoldable pub written_sections : List DescribedSection → List ℕ → List Section
written_sections sections loader = laid_out (data_from (length sections)) sections loader

-- all headers, then the raw bytes from the next multiple of 16 on
unfoldable pub written_container : Versions → List DescribedSection → List ℕ → List ℕ
written_container v sections loader =
    padded 16 (spelled (header_fields (written_header v (length sections))) ++ spelled_headers (written_sections sections loader))
    ++ raw_data sections loader

-- section k of a container is this one: its header has the script's values, and its raw bytes are those of
-- the image
pub record IsSection (c : Contained) (k : ℕ) (s : DescribedSection) : Type 0 where
  pub at : ℕ
  pub is : section_of c k ≡ Some (record { header = section_header s at; raw = raw_of s })
