-- Files in MacBinary: a header of 128 bytes, a second header, the data fork, the resource fork and a comment, each
-- followed by zeros up to a multiple of 128 (MacBinary I, II and III). That a header with a wrong CRC is read if it
-- says that it is of II or III, and that forks are read as far as they go, are this project's own rules.
use Rattle.std.specs.Prelude.{ℕ, ◌+◌, ◌*◌, ◌/◌, ◌==◌, ◌&&◌, ◌||◌, Bool, true, List, [], ◌∷◌, Option, None, Some, nat_le, nat_lt, if◌then◌else◌}
use Rattle.std.specs.Int.{w16}
use Rattle.std.specs.Option.{is_none}
use Rattle.pef_words.specs.Bytes.{number_at, part_of, signed_at}
use Rattle.pef_words.specs.Refusals.{◌>>=◌}
use Rattle.mac_forks.specs.declared.fault.ForkFault.{ForkFault}
use Rattle.mac_forks.specs.declared.fault.ForkFault.TheVariants.{BadMacBinaryCrc, DataForkCut, ResourceForkCut, CommentCut}
use Rattle.mac_forks.specs.declared.finder.FinderInfo.{FinderInfo}
use Rattle.mac_forks.specs.declared.mac_binary.MacBinaryHeader.{MacBinaryHeader}
use Rattle.mac_forks.specs.declared.mac_binary.MacBinaryExtension.{MacBinaryExtension}
use Rattle.mac_forks.specs.declared.mac_binary.MacBinaryCuts.{MacBinaryCuts}
use Rattle.mac_forks.specs.Crc.{crc_of}
use Rattle.mac_forks.specs.Parts.{Lying, part_in, part_within}

-- the fields of a header after the dates; none if they pass the end
unfoldable pub extension_of : List ℕ → Option MacBinaryExtension
extension_of bytes = do
  comment ← number_at 2 bytes 99
  flags ← number_at 1 bytes 101
  signature ← number_at 4 bytes 102
  script ← number_at 1 bytes 106
  extended ← number_at 1 bytes 107
  unpacked ← number_at 4 bytes 116
  second ← number_at 2 bytes 120
  version ← number_at 1 bytes 122
  least ← number_at 1 bytes 123
  crc ← number_at 2 bytes 124
  reserved ← number_at 2 bytes 126
  Some (record {
    comment_length = comment;
    finder_flags_low = flags;
    signature = signature;
    script = script;
    extended_flags = extended;
    unpacked_length = unpacked;
    second_header_length = second;
    version = version;
    least_version = least;
    crc = crc;
    reserved = reserved;
  })

-- the header, field by field; none if there are fewer than 128 bytes
unfoldable pub header_of : List ℕ → Option MacBinaryHeader
header_of bytes = do
  zero_1 ← number_at 1 bytes 0
  name ← number_at 1 bytes 1
  type ← number_at 4 bytes 65
  creator ← number_at 4 bytes 69
  flags ← number_at 1 bytes 73
  zero_2 ← number_at 1 bytes 74
  vertical ← signed_at w16 2 bytes 75
  horizontal ← signed_at w16 2 bytes 77
  window ← number_at 2 bytes 79
  protected ← number_at 1 bytes 81
  zero_3 ← number_at 1 bytes 82
  data_length ← number_at 4 bytes 83
  resource_length ← number_at 4 bytes 87
  created ← number_at 4 bytes 91
  modified ← number_at 4 bytes 95
  extension ← extension_of bytes
  Some (record {
    zero_1 = zero_1;
    name_length = name;
    file_type = type;
    creator = creator;
    finder_flags_high = flags;
    zero_2 = zero_2;
    vertical = vertical;
    horizontal = horizontal;
    window = window;
    protected = protected;
    zero_3 = zero_3;
    data_length = data_length;
    resource_length = resource_length;
    created = created;
    modified = modified;
    extension = extension;
  })

-- three bytes are 0, the name has 1 to 63 bytes, and the length of each fork is below 2^31
abbrev pub has_shape : MacBinaryHeader → Bool
has_shape h = h.zero_1 == 0 && h.zero_2 == 0 && h.zero_3 == 0 && nat_le 1 h.name_length && nat_le h.name_length 63
    && nat_lt h.data_length 0x8000_0000 && nat_lt h.resource_length 0x8000_0000

-- all of some bytes are 0
abbrev pub all_zero : List ℕ → Bool
all_zero [] = true
all_zero (b ∷ bytes) = b == 0 && all_zero bytes

-- the CRC is that of the 124 bytes before it
abbrev pub crc_is_right : List ℕ → MacBinaryHeader → Bool
crc_is_right bytes h = crc_of bytes == h.extension.crc

-- the header says that it is of MacBinary II or III: `mBIN`, or a version of 129 or 130
abbrev pub is_marked : MacBinaryHeader → Bool
is_marked h = h.extension.signature == 0x6D42_494E || h.extension.version == 129 || h.extension.version == 130

-- the error of a CRC that is wrong; MacBinary I has none
abbrev pub fault_among : Bool → Bool → Option ForkFault
fault_among right first = if right || first then None else Some BadMacBinaryCrc

-- a length with the zeros that follow it, up to a multiple of 128
abbrev pub padded : ℕ → ℕ
padded len = (len + 127) / 128 * 128

-- where the data fork, the resource fork and the comment begin
abbrev pub data_fork_from : MacBinaryHeader → ℕ
data_fork_from h = 128 + padded h.extension.second_header_length

abbrev pub resource_fork_from : MacBinaryHeader → ℕ
resource_fork_from h = data_fork_from h + padded h.data_length

abbrev pub comment_from : MacBinaryHeader → ℕ
comment_from h = resource_fork_from h + padded h.resource_length

-- .. and where the last part ends, with the zeros that follow it
abbrev pub end_of : MacBinaryHeader → ℕ
end_of h = comment_from h + padded h.extension.comment_length

-- the error of a part that passes the end
abbrev pub cut_of : ForkFault → Option Lying → Option ForkFault
cut_of fault None = Some fault
cut_of fault (Some part) = None

abbrev pub cuts_in : List ℕ → MacBinaryHeader → MacBinaryCuts
cuts_in bytes h = record {
  data_fork = cut_of DataForkCut (part_in bytes (data_fork_from h) h.data_length);
  resource_fork = cut_of ResourceForkCut (part_in bytes (resource_fork_from h) h.resource_length);
  comment = cut_of CommentCut (part_in bytes (comment_from h) h.extension.comment_length);
}

-- a file in MacBinary: its header, whether it is of version I, its error, and its parts, the forks as far as they are there
pub record MacBinaryIs : Type 0 where
  pub header : MacBinaryHeader
  pub is_first_version : Bool
  pub fault : Option ForkFault
  pub name : Lying
  pub data_fork : Lying
  pub resource_fork : Lying
  pub comment : Option Lying
  pub cuts : MacBinaryCuts

-- what the parts of a file with a header are
abbrev pub with_parts : List ℕ → MacBinaryHeader → Bool → Bool → Option MacBinaryIs
with_parts bytes h right first = do
  name ← part_in bytes 2 h.name_length
  Some (record {
    header = h;
    is_first_version = first;
    fault = fault_among right first;
    name = name;
    data_fork = part_within bytes (data_fork_from h) h.data_length;
    resource_fork = part_within bytes (resource_fork_from h) h.resource_length;
    comment = part_in bytes (comment_from h) h.extension.comment_length;
    cuts = cuts_in bytes h;
  })

-- both forks are there
abbrev pub has_forks : MacBinaryCuts → Bool
has_forks cuts = is_none cuts.data_fork && is_none cuts.resource_fork

-- .. if the CRC is right, or it says that it is of II or III, or bytes 99 to 127 are 0 and both forks are there
abbrev pub if_marked : List ℕ → MacBinaryHeader → Bool → Bool → Option MacBinaryIs
if_marked bytes h right first =
    if right || is_marked h || first && has_forks (cuts_in bytes h) then with_parts bytes h right first else None

-- .. if its fields can be those of a header
abbrev pub if_shaped : List ℕ → MacBinaryHeader → Option MacBinaryIs
if_shaped bytes h =
    if has_shape h then (do
      rest ← part_of bytes 99 29
      tested ← part_of bytes 0 124
      if_marked bytes h (crc_is_right tested h) (all_zero rest))
    else None

-- which file in MacBinary some bytes are; none if they aren't one
unfoldable pub mac_binary_of : List ℕ → Option MacBinaryIs
mac_binary_of bytes = header_of bytes >>= if_shaped bytes

-- the fields of the header that are the Finder's
abbrev pub finder_in : MacBinaryHeader → FinderInfo
finder_in h = record {
  file_type = h.file_type;
  creator = h.creator;
  flags = h.finder_flags_high * 256 + h.extension.finder_flags_low;
  vertical = h.vertical;
  horizontal = h.horizontal;
  window = h.window;
}
