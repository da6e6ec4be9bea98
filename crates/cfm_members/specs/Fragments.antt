-- The container of a fragment, by its name in the table of fragments (the resource `cfrg` 0), or by its number among the
-- containers that a search finds. Which member has a name if several have, and how errors are told, is this project's own.
use Rattle.std.specs.Prelude.{ℕ, pos, ◌+◌, ◌==◌, ◌&&◌, ◌%◌, ◌^◌, Bool, false, List, [], ◌∷◌, Option, None, Some, option_map, Result, Ok, Err, length, not, if◌then◌else◌}
use Rattle.std.specs.Int.{cast_signed, w16}
use Rattle.std.specs.List.{slice_get}
use Rattle.std.specs.Option.{option_map_or, option_or}
use Rattle.std.specs.Str.{bytes_eq}
use Rattle.mac_forks.specs.MacFile.{MacFileIs, mac_file_of}
use Rattle.mac_forks.specs.Parts.{Lying}
use Rattle.mac_forks.specs.declared.fault.ForkFault.{ForkFault}
use Rattle.mac_resources.specs.Fork.{ForkIs, fork_of}
use Rattle.mac_resources.specs.Resources.{ResourceIs, resource_with}
use Rattle.mac_resources.specs.declared.fault.ResourceFault.{ResourceFault}
use Rattle.cfm_members.specs.Contents.{rest_from}
use Rattle.cfm_members.specs.Forks.{data_fork_of, resource_fork_of}
use Rattle.cfm_members.specs.Members.{MemberIs, TableIs, all_members, lies, locator_of, table_of}
use Rattle.cfm_members.specs.Search.{containers_in}
use Rattle.cfm_members.specs.declared.fault.MemberFault.{MemberFault}
use Rattle.cfm_members.specs.declared.fault.MemberFault.TheVariants.{FragmentOutside}
use Rattle.cfm_members.specs.declared.member_lookup_fault.MemberLookupFault.{MemberLookupFault}
use Rattle.cfm_members.specs.declared.member_lookup_fault.MemberLookupFault.TheVariants.{Fork, Resource, Member, NoContainer}
use Rattle.cfm_members.specs.declared.member.Locator.{Locator}
use Rattle.cfm_members.specs.declared.member.Locator.TheVariants as locator

-- the next step, if there was no error
abbrev pub and_then : {A B F : Type 0} → Result A F → (A → Result B F) → Result B F
and_then (Ok x) next = next x
and_then (Err fault) next = Err fault

-- the bytes of a fork that a file has
abbrev pub fork_bytes : Option (Result Lying ForkFault) → Result (List ℕ) MemberLookupFault
fork_bytes None = Err NoContainer
fork_bytes (Some (Ok part)) = Ok part.bytes
fork_bytes (Some (Err fault)) = Err (Fork fault)

-- the resource fork with some bytes. An empty one is none
abbrev pub fork_read : Result ForkIs ResourceFault → Result ForkIs MemberLookupFault
fork_read (Ok fork) = Ok fork
fork_read (Err fault) = Err (Resource fault)

unfoldable pub resources_of : List ℕ → Result ForkIs MemberLookupFault
resources_of bytes = if length bytes == 0 then Err NoContainer else fork_read (fork_of bytes)

-- the bytes of a resource that a fork has
abbrev pub contents_bytes : Result Lying ResourceFault → Result (List ℕ) MemberLookupFault
contents_bytes (Ok part) = Ok part.bytes
contents_bytes (Err fault) = Err (Resource fault)

abbrev pub resource_bytes : Option ResourceIs → Result (List ℕ) MemberLookupFault
resource_bytes None = Err NoContainer
resource_bytes (Some r) = contents_bytes r.contents

-- a member has a name, and isn't for CFM-68K (`m68k`)
abbrev pub has_name : List ℕ → Result (List ℕ) MemberFault → Bool
has_name name (Ok own) = bytes_eq own name
has_name name (Err fault) = false

abbrev pub is_named : List ℕ → MemberIs → Bool
is_named name m = has_name name m.name && not (m.header.architecture == 0x6D36_386B)

abbrev pub named_here : List ℕ → Result MemberIs MemberFault → Option MemberIs
named_here name (Ok m) = if is_named name m then Some m else None
named_here name (Err fault) = None

-- the first such member
abbrev pub first_named : List ℕ → List (Result MemberIs MemberFault) → Option MemberIs
first_named name [] = None
first_named name (row ∷ rows) = option_or (named_here name row) (first_named name rows)

-- .. of a table
abbrev pub named_in : List ℕ → Result TableIs MemberFault → Result MemberIs MemberLookupFault
named_in name (Ok table) = option_map_or Ok (first_named name (all_members table)) (Err NoContainer)
named_in name (Err fault) = Err (Member fault)

-- the error of a member whose container isn't in the data fork
abbrev pub outside : {A : Type 0} → MemberIs → Result A MemberLookupFault
outside m = Err (Member (FragmentOutside m.member (m.offset + 24)))

-- the bytes of a data fork that a member needs
abbrev pub data_bytes : MemberIs → Option (Result Lying ForkFault) → Result (List ℕ) MemberLookupFault
data_bytes m None = outside m
data_bytes m (Some (Ok part)) = Ok part.bytes
data_bytes m (Some (Err fault)) = Err (Fork fault)

-- the container of a member. The id of a resource is the lower half of its field, signed
abbrev pub lying_in : MemberIs → Option (Result Lying ForkFault) → ForkIs → Locator → Result (List ℕ) MemberLookupFault
lying_in m data_fork resources locator.Memory = Err NoContainer
lying_in m data_fork resources (locator.DataFork offset len) =
    and_then (data_bytes m data_fork) (λ bytes. option_map_or (λ part. Ok part.bytes) (lies bytes offset len) (outside m))
lying_in m data_fork resources (locator.Resource type id) = resource_bytes (resource_with resources type (cast_signed w16 (id % 2 ^ 16)))
lying_in m data_fork resources (locator.Other code) = Err NoContainer

-- the container of the fragment with a name, by the forks
abbrev pub named_by : List ℕ → Option (Result Lying ForkFault) → ForkIs → Result (List ℕ) MemberLookupFault
named_by name data_fork resources =
    and_then (resource_bytes (resource_with resources 0x6366_7267 (pos 0)))
    (λ table. and_then (named_in name (table_of table)) (λ m. lying_in m data_fork resources (locator_of m.header)))

-- .. of which the resource fork has these bytes
unfoldable pub named_in_forks : List ℕ → Option (Result Lying ForkFault) → List ℕ → Result (List ℕ) MemberLookupFault
named_in_forks name data_fork resources = and_then (resources_of resources) (named_by name data_fork)

-- .. of a data fork and of a file with the resource fork
abbrev pub named_beside : List ℕ → Option (Result Lying ForkFault) → List ℕ → Result MacFileIs ForkFault → Result (List ℕ) MemberLookupFault
named_beside name data_fork resources (Ok file) = and_then (fork_bytes (resource_fork_of resources file)) (named_in_forks name data_fork)
named_beside name data_fork resources (Err fault) = Err (Fork fault)

-- .. of a file with the data fork and of one with the resource fork
abbrev pub named_in_pair : List ℕ → List ℕ → Result MacFileIs ForkFault → List ℕ → Result (List ℕ) MemberLookupFault
named_in_pair name bytes (Ok file) resources = named_beside name (data_fork_of bytes file) resources (mac_file_of resources)
named_in_pair name bytes (Err fault) resources = Err (Fork fault)

unfoldable pub container_in_pair : List ℕ → List ℕ → List ℕ → Result (List ℕ) MemberLookupFault
container_in_pair bytes resources name = named_in_pair name bytes (mac_file_of bytes) resources

-- .. of a file that has both
unfoldable pub container_named : List ℕ → List ℕ → Result (List ℕ) MemberLookupFault
container_named bytes name = container_in_pair bytes bytes name

-- the table of fragments of a file
abbrev pub table_read : Result TableIs MemberFault → Result TableIs MemberLookupFault
table_read (Ok table) = Ok table
table_read (Err fault) = Err (Member fault)

abbrev pub table_in_fork : ForkIs → Result TableIs MemberLookupFault
table_in_fork resources = and_then (resource_bytes (resource_with resources 0x6366_7267 (pos 0))) (λ table. table_read (table_of table))

abbrev pub table_with : List ℕ → Result MacFileIs ForkFault → Result TableIs MemberLookupFault
table_with bytes (Ok file) = and_then (fork_bytes (resource_fork_of bytes file)) (λ fork. and_then (resources_of fork) table_in_fork)
table_with bytes (Err fault) = Err (Fork fault)

unfoldable pub table_in_file : List ℕ → Result TableIs MemberLookupFault
table_in_file bytes = table_with bytes (mac_file_of bytes)

-- the container with a number, from 0, among all that begin in some bytes, and all bytes after it that it can have
unfoldable pub container_numbered : List ℕ → ℕ → Option (List ℕ)
container_numbered bytes number = option_map (rest_from bytes) (slice_get (containers_in bytes 0) number)
