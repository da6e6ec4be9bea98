-- The fragments of a file: the members of its table of fragments (the resource `cfrg` 0), or the containers that it has without
-- one. An empty resource fork is none, so it has no table. Which of them are fragments, and which error is told, is this project's own.
use Rattle.std.specs.Prelude.{ℕ, ◌==◌, List, [], ◌∷◌, ◌++◌, Option, None, Some, Result, Ok, Err, map, if◌then◌else◌}
use Rattle.mac_forks.specs.MacFile.{MacFileIs, mac_file_of}
use Rattle.mac_forks.specs.Parts.{Lying}
use Rattle.mac_forks.specs.declared.fault.ForkFault.{ForkFault}
use Rattle.mac_resources.specs.Fork.{ForkIs}
use Rattle.pef_views.specs.Container.{container_of}
use Rattle.pef_views.specs.Extents.{own_part}
use Rattle.cfm_members.specs.Contents.{readable, rest_from}
use Rattle.cfm_members.specs.Forks.{data_fork_of, resource_fork_of}
use Rattle.cfm_members.specs.Fragments.{and_then, fork_bytes, lying_in, resources_of, table_in_file}
use Rattle.cfm_members.specs.Members.{MemberIs, TableIs, all_members, locator_of}
use Rattle.cfm_members.specs.Search.{begins_container, containers_in}
use Rattle.cfm_members.specs.declared.fault.MemberFault.{MemberFault}
use Rattle.cfm_members.specs.declared.member_lookup_fault.MemberLookupFault.{MemberLookupFault}
use Rattle.cfm_members.specs.declared.member_lookup_fault.MemberLookupFault.TheVariants.{Fork, Member, NoContainer}

-- a fragment: its name if a member names it, the code of its usage, and the bytes of its container
pub record FragmentIs : Type 0 where
  pub name : Option (List ℕ)
  pub usage : ℕ
  pub bytes : List ℕ

-- fragments, if there are any
abbrev pub some_of : List FragmentIs → Result (List FragmentIs) MemberLookupFault
some_of [] = Err NoContainer
some_of (f ∷ fs) = Ok (f ∷ fs)

-- the fragment without a name at a place of a file: what a container there can have, without the bytes after it
abbrev pub own_bytes_of : List ℕ → List ℕ
own_bytes_of rest = own_part rest (container_of rest)

abbrev pub unnamed_at : List ℕ → ℕ → FragmentIs
unnamed_at bytes at = record { name = None; usage = 0; bytes = own_bytes_of (rest_from bytes at) }

-- the only fragment of a file that begins with a container
abbrev pub alone : List ℕ → Result (List FragmentIs) MemberLookupFault
alone bytes = Ok (unnamed_at bytes 0 ∷ [])

-- the fragments of a file without a table: the container that its data fork begins with, or else each that a search finds
abbrev pub first_place : Option Lying → Option ℕ
first_place None = None
first_place (Some part) = if begins_container part.bytes then Some part.offset else None

abbrev pub unnamed_places : List ℕ → Option ℕ → List ℕ
unnamed_places bytes None = containers_in bytes 0
unnamed_places bytes (Some at) = at ∷ []

abbrev pub unnamed_fragments : List ℕ → Option Lying → Result (List FragmentIs) MemberLookupFault
unnamed_fragments bytes data_fork = some_of (map (unnamed_at bytes) (unnamed_places bytes (first_place data_fork)))

-- the forks that the containers of members are in
pub record MemberForksAre : Type 0 where
  pub data_fork : Option (Result Lying ForkFault)
  pub resources : ForkIs

-- the container of a member
abbrev pub container_of_member : MemberForksAre → MemberIs → Result (List ℕ) MemberLookupFault
container_of_member forks m = lying_in m forks.data_fork forks.resources (locator_of m.header)

-- the fragment of a member, if its container is in the file
abbrev pub with_container : MemberIs → List ℕ → Result (List ℕ) MemberLookupFault → Result (Option FragmentIs) MemberLookupFault
with_container m name (Ok bytes) = Ok (Some (record { name = Some name; usage = m.header.usage_code; bytes = bytes }))
with_container m name (Err NoContainer) = Ok None
with_container m name (Err fault) = Err fault

abbrev pub with_name : MemberForksAre → MemberIs → Result (List ℕ) MemberFault → Result (Option FragmentIs) MemberLookupFault
with_name forks m (Ok name) = with_container m name (container_of_member forks m)
with_name forks m (Err fault) = Err (Member fault)

abbrev pub fragment_of : MemberForksAre → MemberIs → Result (Option FragmentIs) MemberLookupFault
fragment_of forks m = with_name forks m m.name

-- the fragment of a row. A member for CFM-68K (`m68k`) is none
abbrev pub fragment_here : MemberForksAre → Result MemberIs MemberFault → Result (Option FragmentIs) MemberLookupFault
fragment_here forks (Ok m) = if m.header.architecture == 0x6D36_386B then Ok None else fragment_of forks m
fragment_here forks (Err fault) = Err (Member fault)

-- the fragments of some rows after those that were found, or the first error of a row
abbrev pub and_found : List FragmentIs → Option FragmentIs → List FragmentIs
and_found found None = found
and_found found (Some f) = found ++ f ∷ []

abbrev pub listed : MemberForksAre → List FragmentIs → List (Result MemberIs MemberFault) → Result (List FragmentIs) MemberLookupFault
listed forks found [] = Ok found
listed forks found (row ∷ rows) = and_then (fragment_here forks row) (λ here. listed forks (and_found found here) rows)

abbrev pub all_listed : MemberForksAre → List (Result MemberIs MemberFault) → Result (List FragmentIs) MemberLookupFault
all_listed forks rows = and_then (listed forks [] rows) some_of

-- the resource fork of a file
abbrev pub read_fork : Result (List ℕ) MemberLookupFault → Result ForkIs MemberLookupFault
read_fork found = and_then found resources_of

abbrev pub fork_with : List ℕ → Result MacFileIs ForkFault → Result ForkIs MemberLookupFault
fork_with bytes (Ok file) = read_fork (fork_bytes (resource_fork_of bytes file))
fork_with bytes (Err fault) = Err (Fork fault)

unfoldable pub fork_in_file : List ℕ → Result ForkIs MemberLookupFault
fork_in_file bytes = fork_with bytes (mac_file_of bytes)

-- the fragments of a table
abbrev pub member_fragments : TableIs → Option (Result Lying ForkFault) → Result ForkIs MemberLookupFault → Result (List FragmentIs) MemberLookupFault
member_fragments table data_fork resources =
    and_then resources (λ fork. all_listed (record { data_fork = data_fork; resources = fork }) (all_members table))

-- the fragments of a data fork, by the table of fragments that was found
abbrev pub fragments_by : List ℕ → List ℕ → Option (Result Lying ForkFault) → Result TableIs MemberLookupFault → Result (List FragmentIs) MemberLookupFault
fragments_by bytes resources data_fork (Ok table) = member_fragments table data_fork (fork_in_file resources)
fragments_by bytes resources data_fork (Err NoContainer) = unnamed_fragments bytes (readable data_fork)
fragments_by bytes resources data_fork (Err fault) = Err fault

-- the data fork of a file, if it has one, or the error of its entry
abbrev pub data_fork_in : List ℕ → Result MacFileIs ForkFault → Result (Option (Result Lying ForkFault)) ForkFault
data_fork_in bytes (Ok file) = Ok (data_fork_of bytes file)
data_fork_in bytes (Err fault) = Err fault

-- the fragments of a file and of one with the resource fork
abbrev pub fragments_with : List ℕ → List ℕ → Result (Option (Result Lying ForkFault)) ForkFault → Result (List FragmentIs) MemberLookupFault
fragments_with bytes resources (Ok data_fork) = fragments_by bytes resources data_fork (table_in_file resources)
fragments_with bytes resources (Err fault) = Err (Fork fault)

unfoldable pub fragments_beside : List ℕ → List ℕ → Result (List FragmentIs) MemberLookupFault
fragments_beside bytes resources = fragments_with bytes resources (data_fork_in bytes (mac_file_of bytes))

-- the fragments of a file with some bytes, and of its companion if there is one
unfoldable pub file_fragments : List ℕ → Option (List ℕ) → Result (List FragmentIs) MemberLookupFault
file_fragments bytes (Some resources) = fragments_beside bytes resources
file_fragments bytes None = if begins_container bytes then alone bytes else fragments_beside bytes bytes
