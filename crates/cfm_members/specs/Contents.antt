-- Which bytes of a file a container in it can have. The format has no length of a container, so this is this project's own rule:
-- a container ends where its member of `cfrg`, its resource or its fork ends.
use Rattle.std.specs.Prelude.{ℕ, pos, ◌-◌, ◌==◌, ◌&&◌, List, [], ◌∷◌, Option, None, Some, Result, Ok, Err, drop, length, min, nat_le, nat_lt, option_map, unwrap_or, if◌then◌else◌}
use Rattle.std.specs.Option.{option_or}
use Rattle.pef_words.specs.Refusals.{◌>>=◌}
use Rattle.mac_forks.specs.MacFile.{MacFileIs, mac_file_of}
use Rattle.mac_forks.specs.Parts.{Lying}
use Rattle.mac_forks.specs.declared.fault.ForkFault.{ForkFault}
use Rattle.mac_resources.specs.Fork.{ForkIs, fork_of}
use Rattle.mac_resources.specs.Resources.{ResourceIs, all_resources, resource_with}
use Rattle.mac_resources.specs.declared.fault.ResourceFault.{ResourceFault}
use Rattle.cfm_members.specs.Forks.{data_fork_of, resource_fork_of}
use Rattle.cfm_members.specs.Members.{MemberIs, TableIs, all_members, container_in, table_of}
use Rattle.cfm_members.specs.declared.fault.MemberFault.{MemberFault}

-- a fork without its error
abbrev pub readable : Option (Result Lying ForkFault) → Option Lying
readable None = None
readable (Some (Ok part)) = Some part
readable (Some (Err fault)) = None

-- the forks of a file that can be read
pub record FileForks : Type 0 where
  pub data_fork : Option Lying
  pub resource_fork : Option Lying

abbrev pub forks_in : List ℕ → Result MacFileIs ForkFault → FileForks
forks_in bytes (Ok file) = record { data_fork = readable (data_fork_of bytes file); resource_fork = readable (resource_fork_of bytes file) }
forks_in bytes (Err fault) = record { data_fork = None; resource_fork = None }

unfoldable pub file_forks : List ℕ → FileForks
file_forks bytes = forks_in bytes (mac_file_of bytes)

-- the resources of a resource fork, if its header and its map can be read
abbrev pub whole_fork : Result ForkIs ResourceFault → Option ForkIs
whole_fork (Ok fork) = Some fork
whole_fork (Err fault) = None

abbrev pub resources_of : Option Lying → Option ForkIs
resources_of None = None
resources_of (Some part) = whole_fork (fork_of part.bytes)

-- the table of fragments among them, the resource `cfrg` 0, if it can be read
abbrev pub whole_table : Result TableIs MemberFault → Option TableIs
whole_table (Ok table) = Some table
whole_table (Err fault) = None

abbrev pub table_here : Result Lying ResourceFault → Option TableIs
table_here (Ok part) = whole_table (table_of part.bytes)
table_here (Err fault) = None

abbrev pub table_among : Option ForkIs → Option TableIs
table_among None = None
table_among (Some fork) = resource_with fork 0x6366_7267 (pos 0) >>= (λ r. table_here r.contents)

-- all bytes from a place on
abbrev pub all_from : List ℕ → ℕ → List ℕ
all_from bytes at = drop (min at (length bytes)) bytes

-- where a place of a file is in some of its bytes, which lie from an offset on; none if it isn't in them
abbrev pub place_in : Lying → ℕ → Option ℕ
place_in part at = if nat_le part.offset at && nat_lt (at - part.offset) (length part.bytes) then Some (at - part.offset) else None

-- the bytes of a resource from a place of the fork on, if the resource has the place
abbrev pub resource_rest : ℕ → Result Lying ResourceFault → Option (List ℕ)
resource_rest at (Ok part) = option_map (all_from part.bytes) (place_in part at)
resource_rest at (Err fault) = None

abbrev pub resource_row_rest : ℕ → Result ResourceIs ResourceFault → Option (List ℕ)
resource_row_rest at (Ok r) = resource_rest at r.contents
resource_row_rest at (Err fault) = None

-- .. of the first resource that has it, among so many rows
abbrev pub first_resource_rest : ℕ → ℕ → List (Result ResourceIs ResourceFault) → Option (List ℕ)
first_resource_rest most at [] = None
first_resource_rest most at (row ∷ rows) = if most == 0 then None else option_or (resource_row_rest at row) (first_resource_rest (most - 1) at rows)

-- the bytes of a resource fork from a place of it on: those up to the end of the resource that has the place, or of the fork. The
-- first 4,096 rows are looked at, more than the Resource Manager takes
abbrev pub resource_fork_rest : List ℕ → Option ForkIs → ℕ → List ℕ
resource_fork_rest fork None at = all_from fork at
resource_fork_rest fork (Some resources) at = unwrap_or (first_resource_rest 4096 at (all_resources resources)) (all_from fork at)

-- the bytes of a member's container, if it begins at a place of the data fork
abbrev pub member_rest : ℕ → Option (Result Lying MemberFault) → Option (List ℕ)
member_rest at None = None
member_rest at (Some (Ok part)) = if part.offset == at then Some part.bytes else None
member_rest at (Some (Err fault)) = None

abbrev pub member_row_rest : List ℕ → ℕ → Result MemberIs MemberFault → Option (List ℕ)
member_row_rest fork at (Ok m) = member_rest at (container_in m fork)
member_row_rest fork at (Err fault) = None

-- .. of the first member whose container does, among so many rows
abbrev pub first_member_rest : List ℕ → ℕ → ℕ → List (Result MemberIs MemberFault) → Option (List ℕ)
first_member_rest fork most at [] = None
first_member_rest fork most at (row ∷ rows) = if most == 0 then None else option_or (member_row_rest fork at row) (first_member_rest fork (most - 1) at rows)

-- the bytes of a data fork from a place of it on: those up to the end of the member whose container begins there, or of the fork.
-- The first 256 rows are looked at
abbrev pub data_fork_rest : List ℕ → Option TableIs → ℕ → List ℕ
data_fork_rest fork None at = all_from fork at
data_fork_rest fork (Some table) at = unwrap_or (first_member_rest fork 256 at (all_members table)) (all_from fork at)

-- the bytes of a fork from a place of the file on, if the fork has the place
abbrev pub rest_in_data : Option Lying → Option TableIs → ℕ → Option (List ℕ)
rest_in_data None table at = None
rest_in_data (Some part) table at = option_map (data_fork_rest part.bytes table) (place_in part at)

abbrev pub rest_in_resources : Option Lying → Option ForkIs → ℕ → Option (List ℕ)
rest_in_resources None resources at = None
rest_in_resources (Some part) resources at = option_map (resource_fork_rest part.bytes resources) (place_in part at)

-- the bytes that a container at a place of a file can have, by the forks
abbrev pub rest_by : List ℕ → FileForks → ℕ → List ℕ
rest_by bytes forks at =
    unwrap_or (option_or (rest_in_data forks.data_fork (table_among (resources_of forks.resource_fork)) at)
    (rest_in_resources forks.resource_fork (resources_of forks.resource_fork) at)) (all_from bytes at)

-- .. those up to the end of its member, its resource or its fork, or of a file without such a fork
unfoldable pub rest_from : List ℕ → ℕ → List ℕ
rest_from bytes at = rest_by bytes (file_forks bytes) at
