-- What the calls return and write that give resources, members of a table of fragments and places of containers. 201 means that
-- there is none.
use Rattle.std.specs.Prelude.{◌≡◌, ◌⊎◌, ◌==◌, ℕ, ℤ, List, None, Some, Ok, Err, MatchBool}
use Rattle.mac_resources.specs.Faults as resource_fault
use Rattle.mac_resources.specs.Fork.{ForkIs, fork_of}
use Rattle.mac_resources.specs.Resources.{ResourceIs, all_resources, resource_with}
use Rattle.mac_resources.specs.declared.fault.ResourceFault.{ResourceFault}
use Rattle.cfm_members.specs.Faults.{fault_number}
use Rattle.cfm_members.specs.Members.{TableIs, all_members, table_of}
use Rattle.cfm_members.specs.Search.{containers_in}
use Rattle.cfm_members.specs.declared.fault.MemberFault.{MemberFault}
use Rattle.pef_records.specs.Buffers.{FillsRows}
use Rattle.pef_records.specs.Files.Rows.{MemberRow, ResourceRow, map_row, member_row, resource_row}
use Rattle.pef_records.specs.declared.files.structs.PefResourceMap.{PefResourceMap}

-- `pef_resource_map`: 0, and the map; or the fork's error, and nothing is written
abbrev pub MapAnswers : List ℕ → PefResourceMap → PefResourceMap → ℕ → Type 0
MapAnswers bytes old new answer =
    MatchBool (answer == 0)
    ((f : ForkIs) × (fork_of bytes ≡ Ok f) × (new ≡ map_row f))
    ((new ≡ old) × (fault : ResourceFault) × (fork_of bytes ≡ Err fault) × (answer ≡ resource_fault.fault_number fault))

-- `pef_resources`: 0, and rows of resources; or the fork's error, and nothing is written
abbrev pub ResourcesAnswers : List ℕ → ℕ → List ResourceRow → List ResourceRow → ℕ → ℕ → ℕ → Type 0
ResourcesAnswers bytes from old new before after answer =
    MatchBool (answer == 0)
    ((f : ForkIs) × (fork_of bytes ≡ Ok f) × FillsRows resource_row (all_resources f) from old new after)
    ((new ≡ old) × (after ≡ before) × (fault : ResourceFault) × (fork_of bytes ≡ Err fault) × (answer ≡ resource_fault.fault_number fault))

-- `pef_find_resource`: 0, and the resource with a type and an id; or 201 if there is none, or the fork's error, and nothing
-- is written
abbrev pub ResourceAnswers : List ℕ → ℕ → ℤ → ResourceRow → ResourceRow → ℕ → Type 0
ResourceAnswers bytes code id old new answer =
    MatchBool (answer == 0)
    ((f : ForkIs) × (r : ResourceIs) × (fork_of bytes ≡ Ok f) × (resource_with f code id ≡ Some r) × (new ≡ resource_row (Ok r)))
    ((new ≡ old)
    × (((answer ≡ 201) × ((f : ForkIs) × (fork_of bytes ≡ Ok f) × (resource_with f code id ≡ None)))
    ⊎ ((fault : ResourceFault) × (fork_of bytes ≡ Err fault) × (answer ≡ resource_fault.fault_number fault))))

-- `pef_members`: 0, and rows of members; or the table's error, and nothing is written
abbrev pub MembersAnswers : List ℕ → List ℕ → ℕ → List MemberRow → List MemberRow → ℕ → ℕ → ℕ → Type 0
MembersAnswers bytes fork from old new before after answer =
    MatchBool (answer == 0)
    ((t : TableIs) × (table_of bytes ≡ Ok t) × FillsRows (member_row fork) (all_members t) from old new after)
    ((new ≡ old) × (after ≡ before) × (fault : MemberFault) × (table_of bytes ≡ Err fault) × (answer ≡ fault_number fault))

-- `pef_find_containers`: 0, and places of containers
abbrev pub FindsContainers : List ℕ → ℕ → List ℕ → List ℕ → ℕ → ℕ → Type 0
FindsContainers bytes from old new after answer = (answer ≡ 0) × FillsRows (λ at. at) (containers_in bytes 0) from old new after
