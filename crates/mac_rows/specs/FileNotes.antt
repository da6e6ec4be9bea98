-- What is odd about a file besides its containers, and breaks no rule: bytes after the forks of MacBinary, fragments that don't
-- hold their container, whose data fork isn't there, whose architecture isn't that of their container, or whose codes no table has,
-- and files of other formats, which aren't unpacked. Which oddities are
-- noted, and by which bytes a format is recognised, is this project's own.
use Rattle.std.specs.Prelude.{ℕ, ◌+◌, ◌-◌, ◌==◌, ◌&&◌, ◌||◌, Bool, List, [], ◌∷◌, ◌++◌, Option, None, Some, Result, Ok, Err, codes, drop, length, nat_le, nat_lt, take, if◌then◌else◌}
use Rattle.std.specs.Option.{unwrap_or}
use Rattle.std.specs.Str.{bytes_eq}
use Rattle.pef_words.specs.Bytes.{number_at}
use Rattle.mac_forks.specs.Parts.{Lying}
use Rattle.cfm_members.specs.Contents.{readable}
use Rattle.cfm_members.specs.Kinds.{kind_of}
use Rattle.cfm_members.specs.Members.{MemberIs, all_members, locator_of}
use Rattle.cfm_members.specs.declared.fault.MemberFault.{MemberFault}
use Rattle.cfm_members.specs.declared.file_kind.FileKind.{FileKind}
use Rattle.cfm_members.specs.declared.file_kind.FileKind.TheVariants.{Container}
use Rattle.cfm_members.specs.declared.member.Locator.{Locator}
use Rattle.cfm_members.specs.declared.member.Locator.TheVariants as locator
use Rattle.pef_views.specs.Partial.{partial_of}
use Rattle.pef_inspect.specs.Needs.{needed_of}
use Rattle.mac_rows.specs.DataFiles.{DataFileIs, member_table_in}
use Rattle.mac_rows.specs.MacParts.{MemberTableIs, PlaceIs, WrappingIs, elsewhere, lying, missing, place_of, wrapping_of}
use Rattle.mac_rows.specs.Sums.{up_to}
use Rattle.mac_rows.specs.declared.file_finding.FileFinding.{FileFinding}
use Rattle.mac_rows.specs.declared.file_finding.FileFinding.TheVariants.{BytesAfterForks, FragmentShort, DataForkElsewhere, NotUnpacked, FragmentArchitecture, FragmentUsage}
use Rattle.mac_rows.specs.declared.file_finding.OtherFormat.{OtherFormat}
use Rattle.mac_rows.specs.declared.file_finding.OtherFormat.TheVariants.{StuffIt, CompactPro, BinHex, Zip, DiskCopy, Hfs, HfsPlus, PartitionMap, Iso9660}

-- the bytes after the forks
abbrev pub after_notes : ℕ → Option ℕ → List FileFinding
after_notes len None = []
after_notes len (Some end) = if nat_lt end len then BytesAfterForks end (len - end) ∷ [] else []

-- a text is at a place
abbrev pub has_text : List ℕ → ℕ → List ℕ → Bool
has_text bytes at text = bytes_eq text (take (length text) (drop at bytes))

-- a number of 32 bits, 0 if it passes the end
abbrev pub number_of : List ℕ → ℕ → ℕ
number_of bytes at = unwrap_or (number_at 4 bytes at) 0

-- StuffIt: `SIT!`, or `StuffIt (c)` of version 5
unfoldable pub is_stuffit : List ℕ → Bool
is_stuffit bytes = has_text bytes 0 (codes "SIT!") || has_text bytes 0 (codes "StuffIt (c)")

-- Compact Pro: a first volume, and where its directory is
unfoldable pub is_compact_pro : List ℕ → Bool
is_compact_pro bytes = has_text bytes 0 (1 ∷ 1 ∷ []) && (nat_le 8 (number_of bytes 4) && nat_le (number_of bytes 4 + 7) (length bytes))

unfoldable pub is_bin_hex : List ℕ → Bool
is_bin_hex bytes = has_text bytes 0 (codes "(This file must be converted")

unfoldable pub is_zip : List ℕ → Bool
is_zip bytes = has_text bytes 0 (0x50 ∷ 0x4B ∷ 3 ∷ 4 ∷ [])

-- DiskCopy 4.2: its header of 84 bytes, then data and tags
unfoldable pub is_disk_copy : List ℕ → Bool
is_disk_copy bytes = has_text bytes 82 (1 ∷ 0 ∷ []) && (84 + number_of bytes 64 + number_of bytes 68 == length bytes)

-- HFS and HFS+: the block of the volume, at 1024, and in HFS a name of 1 to 27 bytes there
unfoldable pub is_hfs : List ℕ → Bool
is_hfs bytes = has_text bytes 1024 (codes "BD") && (nat_le 1 (unwrap_or (number_at 1 bytes 1060) 0) && nat_le (unwrap_or (number_at 1 bytes 1060) 0) 27)

unfoldable pub is_hfs_plus : List ℕ → Bool
is_hfs_plus bytes = has_text bytes 1024 (0x48 ∷ 0x2B ∷ 0 ∷ 4 ∷ []) || has_text bytes 1024 (0x48 ∷ 0x58 ∷ 0 ∷ 5 ∷ [])

-- a disk with partitions: the block of the driver, and the first entry of the map
unfoldable pub is_partition_map : List ℕ → Bool
is_partition_map bytes = has_text bytes 0 (codes "ER") && has_text bytes 512 (codes "PM")

unfoldable pub is_iso_9660 : List ℕ → Bool
is_iso_9660 bytes = has_text bytes 32769 (codes "CD001")

-- what some bytes seem to be: an archive, a disk or a volume, an image with a header of its own, or none of these
unfoldable pub image_of : List ℕ → Option OtherFormat
image_of bytes = if is_disk_copy bytes then Some DiskCopy else if is_compact_pro bytes then Some CompactPro else None

unfoldable pub volume_of : List ℕ → Option OtherFormat
volume_of bytes =
    if is_partition_map bytes then Some PartitionMap else
    if is_hfs_plus bytes then Some HfsPlus else
    if is_hfs bytes then Some Hfs else
    if is_iso_9660 bytes then Some Iso9660 else
    image_of bytes

unfoldable pub format_of : List ℕ → Option OtherFormat
format_of bytes =
    if is_stuffit bytes then Some StuffIt else
    if is_bin_hex bytes then Some BinHex else
    if is_zip bytes then Some Zip else
    volume_of bytes

abbrev pub format_notes : ℕ → Option OtherFormat → List FileFinding
format_notes at None = []
format_notes at (Some format) = NotUnpacked at format ∷ []

-- the data fork, or all bytes of a file without forks
abbrev pub unpacked_in : List ℕ → Option Lying → Option Lying → List FileFinding
unpacked_in bytes (Some data_fork) resource_fork = format_notes data_fork.offset (format_of data_fork.bytes)
unpacked_in bytes None (Some resource_fork) = []
unpacked_in bytes None None = format_notes 0 (format_of bytes)

-- where a member begins in the file
abbrev pub member_offset : MemberTableIs → MemberIs → ℕ
member_offset t m = up_to (t.table_base + m.offset)

-- a container that needs more bytes than its member has. With fewer than the 40 bytes of a header it is none
abbrev pub short_notes : MemberTableIs → MemberIs → ℕ → ℕ → List FileFinding
short_notes t m needs has = if nat_le 40 has && nat_lt has needs then FragmentShort (member_offset t m) m.member (needs - has) ∷ [] else []

-- a container that is in a data fork which isn't there
abbrev pub absent_notes : MemberTableIs → MemberIs → Locator → List FileFinding
absent_notes t m (locator.DataFork offset len) = DataForkElsewhere (member_offset t m) m.member ∷ []
absent_notes t m (locator.Resource type_code id) = []
absent_notes t m locator.Memory = []
absent_notes t m (locator.Other code) = []

-- the first 256 members are measured
abbrev pub placed_notes : MemberTableIs → MemberIs → PlaceIs → List FileFinding
placed_notes t m elsewhere = absent_notes t m (locator_of m.header)
placed_notes t m (missing found) = []
placed_notes t m (lying at bytes) = if nat_lt m.member 256 then short_notes t m (needed_of (partial_of bytes)) (length bytes) else []

-- the architecture of a container, if one begins some bytes
abbrev pub architecture_if : FileKind → List ℕ → Option ℕ
architecture_if Container bytes = number_at 4 bytes 8
architecture_if kind bytes = None

abbrev pub architecture_at : PlaceIs → Option ℕ
architecture_at elsewhere = None
architecture_at (missing found) = None
architecture_at (lying at bytes) = architecture_if (kind_of bytes) bytes

-- an architecture of a table is `pwpc`, `m68k` or `????`, which is any
abbrev pub is_known : ℕ → Bool
is_known architecture = architecture == 0x7077_7063 || (architecture == 0x6D36_386B || architecture == 0x3F3F_3F3F)

-- .. and that of the container, if there is one
abbrev pub agrees : ℕ → Option ℕ → Bool
agrees architecture None = is_known architecture
agrees architecture (Some own) = architecture == own || architecture == 0x3F3F_3F3F

abbrev pub architecture_notes : MemberTableIs → MemberIs → Option ℕ → List FileFinding
architecture_notes t m own =
    if agrees m.header.architecture own then [] else FragmentArchitecture (member_offset t m) m.member ∷ []

-- a usage that the format doesn't name: the greatest is 4
abbrev pub usage_notes : MemberTableIs → MemberIs → List FileFinding
usage_notes t m = if nat_lt 4 m.header.usage_code then FragmentUsage (member_offset t m) m.member ∷ [] else []

-- all notes on a member whose container is at a place
abbrev pub all_notes : MemberTableIs → MemberIs → PlaceIs → List FileFinding
all_notes t m place = placed_notes t m place ++ (architecture_notes t m (architecture_at place) ++ usage_notes t m)

abbrev pub row_notes : MemberTableIs → Result MemberIs MemberFault → List FileFinding
row_notes t (Ok m) = all_notes t m (place_of t m)
row_notes t (Err fault) = []

abbrev pub members_notes : MemberTableIs → List (Result MemberIs MemberFault) → List FileFinding
members_notes t [] = []
members_notes t (row ∷ rows) = row_notes t row ++ members_notes t rows

abbrev pub table_notes : Option MemberTableIs → List FileFinding
table_notes None = []
table_notes (Some t) = members_notes t (all_members t.fragments)

abbrev pub wrapping_notes : Option DataFileIs → List ℕ → WrappingIs → List FileFinding
wrapping_notes other bytes w =
    after_notes (length bytes) w.end ++ (unpacked_in bytes (readable w.data_fork) (readable w.resource_fork) ++ table_notes (member_table_in other w))

-- all notes on a file but those on its containers. Its data fork may be in another file
unfoldable pub notes_of : Option DataFileIs → List ℕ → List FileFinding
notes_of other bytes = wrapping_notes other bytes (wrapping_of bytes)
