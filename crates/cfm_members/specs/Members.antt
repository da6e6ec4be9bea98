-- A table of fragments: its header of 32 bytes, and members of 42 bytes and a name each (CFragResource and
-- CFragResourceMember of CodeFragments.h; Inside Macintosh: PowerPC System Software, "Code Fragment Manager", "The Code
-- Fragment Resource"). How damage is told, and what follows it, is this project's own.
use Rattle.std.specs.Prelude.{ℕ, zero, suc, ◌+◌, ◌-◌, ◌==◌, ◌&&◌, Bool, List, [], ◌∷◌, Option, None, Some, option_map, Result, Ok, Err, nat_le, length, if◌then◌else◌}
use Rattle.std.specs.Option.{option_map_or}
use Rattle.pef_words.specs.Bytes.{number_at, part_of}
use Rattle.pef_words.specs.Refusals.{◌>>=◌}
use Rattle.mac_forks.specs.Parts.{Lying}
use Rattle.cfm_members.specs.declared.fault.MemberFault.{MemberFault}
use Rattle.cfm_members.specs.declared.fault.MemberFault.TheVariants.{FragmentTableCut, BadFragmentTable, MemberCut, MemberNameCut, FragmentOutside}
use Rattle.cfm_members.specs.declared.member.Locator.{Locator}
use Rattle.cfm_members.specs.declared.member.Locator.TheVariants as locator
use Rattle.cfm_members.specs.declared.member.MemberHeader.{MemberHeader}
use Rattle.cfm_members.specs.declared.member.Usage.{Usage}
use Rattle.cfm_members.specs.declared.member.Usage.TheVariants as usage

-- a table: its bytes, its version and how many members it says that it has
pub record TableIs : Type 0 where
  pub bytes : List ℕ
  pub version : ℕ
  pub member_count : ℕ

-- a table with a version and a count
abbrev pub if_first : List ℕ → ℕ → ℕ → Result TableIs MemberFault
if_first bytes version count =
    if version == 1 then Ok (record { bytes = bytes; version = version; member_count = count }) else Err BadFragmentTable

-- the table, or the first error: its header passes the end, or its version isn't 1
unfoldable pub table_of : List ℕ → Result TableIs MemberFault
table_of bytes =
    option_map_or (λ version. option_map_or (if_first bytes version) (number_at 2 bytes 30) (Err FragmentTableCut))
    (number_at 2 bytes 10) (Err FragmentTableCut)

-- the fields of a member, from its first byte; none if they pass the end
unfoldable pub fields_of : List ℕ → Option MemberHeader
fields_of bytes = do
  architecture ← number_at 4 bytes 0
  reserved_1 ← number_at 2 bytes 4
  reserved_2 ← number_at 1 bytes 6
  level ← number_at 1 bytes 7
  current ← number_at 4 bytes 8
  old ← number_at 4 bytes 12
  stack ← number_at 4 bytes 16
  directory ← number_at 2 bytes 20
  usage_code ← number_at 1 bytes 22
  where_code ← number_at 1 bytes 23
  offset ← number_at 4 bytes 24
  len ← number_at 4 bytes 28
  space ← number_at 4 bytes 32
  instance ← number_at 2 bytes 36
  extensions ← number_at 2 bytes 38
  size ← number_at 2 bytes 40
  Some (record {
    architecture = architecture;
    reserved_1 = reserved_1;
    reserved_2 = reserved_2;
    update_level = level;
    current_version = current;
    old_def_version = old;
    stack_size = stack;
    directory_or_flags = directory;
    usage_code = usage_code;
    where_code = where_code;
    offset = offset;
    length = len;
    space_id = space;
    fork_instance = instance;
    extension_count = extensions;
    size = size;
  })

-- the fields of the member at a place; none if they pass the end
unfoldable pub header_at : List ℕ → ℕ → Option MemberHeader
header_at bytes at = part_of bytes at 42 >>= fields_of

-- the size holds the fields and doesn't pass the end
abbrev pub size_fits : List ℕ → ℕ → MemberHeader → Bool
size_fits bytes at h = nat_le 42 h.size && nat_le (at + h.size) (length bytes)

-- where the next member begins; if the size doesn't fit, at the end, where there is none
abbrev pub next_place : List ℕ → ℕ → MemberHeader → ℕ
next_place bytes at h = if size_fits bytes at h then at + h.size else length bytes

-- the error of a size
abbrev pub size_fault : List ℕ → ℕ → ℕ → MemberHeader → Option MemberFault
size_fault bytes at i h = if size_fits bytes at h then None else Some (MemberCut i (at + 40))

-- the name of a member of some size: a byte that is its length, and its bytes; none if it passes the end of the member or
-- of the table
unfoldable pub name_in : List ℕ → ℕ → ℕ → Option (List ℕ)
name_in bytes at size =
    number_at 1 bytes (at + 42) >>= (λ len. if nat_le (43 + len) size then part_of bytes (at + 43) len else None)

abbrev pub name_of : List ℕ → ℕ → ℕ → MemberHeader → Result (List ℕ) MemberFault
name_of bytes at i h = option_map_or Ok (name_in bytes at h.size) (Err (MemberNameCut i (at + 42)))

-- a member: its number, its place, its fields, its name and the error of its size
pub record MemberIs : Type 0 where
  pub member : ℕ
  pub offset : ℕ
  pub header : MemberHeader
  pub name : Result (List ℕ) MemberFault
  pub fault : Option MemberFault

-- the member with some fields
abbrev pub member_at : List ℕ → ℕ → ℕ → MemberHeader → MemberIs
member_at bytes at i h = record { member = i; offset = at; header = h; name = name_of bytes at i h; fault = size_fault bytes at i h }

-- a member and those after it; the error of one whose fields pass the end, which is the last
abbrev pub member_then : List ℕ → ℕ → ℕ → (ℕ → List (Result MemberIs MemberFault)) → Option MemberHeader → List (Result MemberIs MemberFault)
member_then bytes at i others None = Err (MemberCut i at) ∷ []
member_then bytes at i others (Some h) = Ok (member_at bytes at i h) ∷ others (next_place bytes at h)

-- n members from number i on, which begins at a place
unfoldable pub members_from : List ℕ → ℕ → ℕ → ℕ → List (Result MemberIs MemberFault)
members_from bytes i zero at = []
members_from bytes i (suc n) at = member_then bytes at i (members_from bytes (i + 1) n) (header_at bytes at)

-- all members of a table and their errors
abbrev pub all_members : TableIs → List (Result MemberIs MemberFault)
all_members t = members_from t.bytes 0 (t.member_count - 0) 32

-- what a member is for (kImportLibraryCFrag, kApplicationCFrag, kDropInAdditionCFrag, kStubLibraryCFrag,
-- kWeakStubLibraryCFrag)
abbrev pub usage_of : ℕ → Usage
usage_of code =
    if code == 0 then usage.ImportLibrary
    else if code == 1 then usage.Application
    else if code == 2 then usage.DropInAddition
    else if code == 3 then usage.StubLibrary
    else if code == 4 then usage.WeakStubLibrary
    else usage.Other code

-- where its container is (kMemoryCFragLocator, kDataForkCFragLocator, kResourceCFragLocator). That the fields of a resource
-- are its type and its id is from memory of the book
abbrev pub locator_of : MemberHeader → Locator
locator_of h =
    if h.where_code == 0 then locator.Memory
    else if h.where_code == 1 then locator.DataFork h.offset h.length
    else if h.where_code == 2 then locator.Resource h.offset h.length
    else locator.Other h.where_code

-- the len bytes from an offset of a fork, or all from there if len is 0; none if they pass the end
abbrev pub lies : List ℕ → ℕ → ℕ → Option Lying
lies fork offset len =
    option_map (λ part. record { offset = offset; bytes = part }) (part_of fork offset (if len == 0 then length fork - offset else len))

-- the container of a member in a data fork, or its error; none if it is elsewhere
abbrev pub located : MemberIs → List ℕ → Locator → Option (Result Lying MemberFault)
located m fork locator.Memory = None
located m fork (locator.DataFork offset len) =
    Some (option_map_or Ok (lies fork offset len) (Err (FragmentOutside m.member (m.offset + 24))))
located m fork (locator.Resource type id) = None
located m fork (locator.Other code) = None

abbrev pub container_in : MemberIs → List ℕ → Option (Result Lying MemberFault)
container_in m fork = located m fork (locator_of m.header)
