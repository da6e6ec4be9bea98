-- A section: its header of 28 bytes, and its contents (Mac OS Runtime Architectures, "PEF Structure", section
-- headers and section contents; PEFSectionHeader of PEFBinaryFormat.h). The order of its tests is this
-- project's own.
use Rattle.std.specs.Prelude.{ℕ, ◌+◌, ◌==◌, ◌&&◌, ◌||◌, Bool, not, List, [], ◌∷◌, Option, Some, nat_lt, nat_le, take, drop}
use Rattle.std.specs.Int.{w32}
use Rattle.pef_words.specs.Bytes.{number_at, signed_at}
use Rattle.pef_words.specs.Refusals.{◌>>=◌}
use Rattle.pef_format.specs.Sections.{is_instantiable, is_packed, kind_of}
use Rattle.pef_views.specs.Header.{section_header_from}
use Rattle.pef_views.specs.declared.section.SectionHeader.{SectionHeader}
use Rattle.pef_views.specs.declared.fault.ViewFault.{ViewFault}
use Rattle.pef_views.specs.declared.fault.ViewFault.TheVariants.{SectionOutside, BadSectionKind, BadSizes, BadAlignment}

-- the header of section i, field by field; none if it passes the end
unfoldable pub section_at : List ℕ → ℕ → Option SectionHeader
section_at bytes i = do
  name ← signed_at w32 4 bytes (section_header_from i)
  address ← number_at 4 bytes (section_header_from i + 4)
  total ← number_at 4 bytes (section_header_from i + 8)
  unpacked ← number_at 4 bytes (section_header_from i + 12)
  packed ← number_at 4 bytes (section_header_from i + 16)
  offset ← number_at 4 bytes (section_header_from i + 20)
  kind ← number_at 1 bytes (section_header_from i + 24)
  share ← number_at 1 bytes (section_header_from i + 25)
  alignment ← number_at 1 bytes (section_header_from i + 26)
  reserved ← number_at 1 bytes (section_header_from i + 27)
  Some (record {
    name_offset = name;
    default_address = address;
    total_size = total;
    unpacked_size = unpacked;
    packed_size = packed;
    container_offset = offset;
    section_kind = kind;
    share_kind = share;
    alignment = alignment;
    reserved = reserved;
  })

-- the raw bytes, if there are any, lie in a container of some length
abbrev pub is_inside : SectionHeader → ℕ → Bool
is_inside s len = s.packed_size == 0 || nat_le (s.container_offset + s.packed_size) len

-- the image fits the memory, and the raw bytes of all but pattern-initialized data are enough for it
abbrev pub sizes_fit : SectionHeader → Bool
sizes_fit s = nat_le s.unpacked_size s.total_size && (is_packed (kind_of s.section_kind) || nat_le s.unpacked_size s.packed_size)

-- the greatest alignment of an instantiated section, as an exponent of two: addresses have 32 bits
abbrev pub greatest_alignment : ℕ
greatest_alignment = 31

-- the tests of section i, which is instantiated or isn't, in a container of some length, in order
unfoldable pub section_tests : ℕ → Bool → SectionHeader → ℕ → List (Bool × ViewFault)
section_tests i instantiated s len = (not (is_inside s len), SectionOutside i)
    ∷ (instantiated && not (is_instantiable (kind_of s.section_kind)), BadSectionKind i)
    ∷ (instantiated && not (sizes_fit s), BadSizes i)
    ∷ (instantiated && nat_lt greatest_alignment s.alignment, BadAlignment i)
    ∷ []

-- the raw bytes of a section, its contents: packedSize bytes at containerOffset
abbrev pub raw_of : List ℕ → SectionHeader → List ℕ
raw_of bytes s = take s.packed_size (drop s.container_offset bytes)
