-- The container header: the 40 bytes at the front (Mac OS Runtime Architectures, "PEF Structure", container
-- header; PEFContainerHeader of PEFBinaryFormat.h). The order of its tests is this project's own.
use Rattle.std.specs.Prelude.{ℕ, ◌+◌, ◌*◌, ◌==◌, ◌&&◌, Bool, not, List, [], ◌∷◌, ◌++◌, Option, Some, nat_lt}
use Rattle.pef_words.specs.Bytes.{number_at}
use Rattle.pef_words.specs.Refusals.{◌>>=◌}
use Rattle.pef_views.specs.declared.header.Header.{Header}
use Rattle.pef_views.specs.declared.fault.ViewFault.{ViewFault}
use Rattle.pef_views.specs.declared.fault.ViewFault.TheVariants.{TooShort, BadTag, BadArchitecture, BadFormatVersion, BadSectionCounts}

-- the header of a container, field by field; none if there are fewer than 40 bytes
unfoldable pub header_of : List ℕ → Option Header
header_of bytes = do
  tag_1 ← number_at 4 bytes 0
  tag_2 ← number_at 4 bytes 4
  architecture ← number_at 4 bytes 8
  version ← number_at 4 bytes 12
  stamp ← number_at 4 bytes 16
  old_def ← number_at 4 bytes 20
  old_imp ← number_at 4 bytes 24
  current ← number_at 4 bytes 28
  count ← number_at 2 bytes 32
  instantiated ← number_at 2 bytes 34
  reserved ← number_at 4 bytes 36
  Some (record {
    tag_1 = tag_1;
    tag_2 = tag_2;
    architecture = architecture;
    format_version = version;
    date_time_stamp = stamp;
    old_def_version = old_def;
    old_imp_version = old_imp;
    current_version = current;
    section_count = count;
    instantiated_section_count = instantiated;
    reserved = reserved;
  })

-- the tags, the architecture and the version of the format (kPEFTag1, `Joy!`; kPEFTag2, `peff`;
-- kPowerPCCFragArch, `pwpc`; kPEFVersion)
abbrev pub joy : ℕ
joy = 0x4A6F7921

abbrev pub peff : ℕ
peff = 0x70656666

abbrev pub pwpc : ℕ
pwpc = 0x70777063

abbrev pub version_1 : ℕ
version_1 = 1

-- where the header of section i begins: the section headers, of 28 bytes each, follow the container header
abbrev pub section_header_from : ℕ → ℕ
section_header_from i = 40 + 28 * i

-- where the section name table begins: right after the section headers
abbrev pub names_from : Header → ℕ
names_from h = section_header_from h.section_count

-- the test on which all others depend: other bytes are no container
abbrev pub tag_tests : Header → List (Bool × ViewFault)
tag_tests h = (not (h.tag_1 == joy && h.tag_2 == peff), BadTag) ∷ []

-- the tests of the other fields of a header in a container of some length, in order
abbrev pub field_tests : Header → ℕ → List (Bool × ViewFault)
field_tests h len =
    (not (h.architecture == pwpc), BadArchitecture)
    ∷ (not (h.format_version == version_1), BadFormatVersion)
    ∷ (nat_lt h.section_count h.instantiated_section_count, BadSectionCounts)
    ∷ (nat_lt len (names_from h), TooShort)
    ∷ []

-- the tests of a header, in order
unfoldable pub header_tests : Header → ℕ → List (Bool × ViewFault)
header_tests h len = tag_tests h ++ field_tests h len
