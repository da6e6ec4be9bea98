-- All errors of a file that aren't those of its containers, in this order: of its wrapping, of its resource fork, of each
-- resource, of its table of fragments, and of each member. Damage in one part hides no error of another.
use Rattle.std.specs.Prelude.{ℕ, List, [], ◌∷◌, ◌++◌, Option, None, Some, Result, Ok, Err}
use Rattle.mac_forks.specs.Parts.{Lying}
use Rattle.mac_forks.specs.declared.fault.ForkFault.{ForkFault}
use Rattle.mac_resources.specs.Fork.{ForkIs, map_is_cut}
use Rattle.mac_resources.specs.Resources.{ResourceIs, all_resources}
use Rattle.mac_resources.specs.declared.fault.ResourceFault.{ResourceFault}
use Rattle.cfm_members.specs.Contents.{readable}
use Rattle.cfm_members.specs.Kinds.{kind_of}
use Rattle.cfm_members.specs.Members.{MemberIs, all_members}
use Rattle.cfm_members.specs.declared.fault.MemberFault.{MemberFault}
use Rattle.cfm_members.specs.declared.file_kind.FileKind.{FileKind}
use Rattle.cfm_members.specs.declared.file_kind.FileKind.TheVariants.{Container}
use Rattle.cfm_members.specs.declared.member_lookup_fault.MemberLookupFault.TheVariants.{Fork, Resource, Member}
use Rattle.mac_rows.specs.DataFiles.{DataFileIs, members_fork}
use Rattle.mac_rows.specs.MacParts.{MemberTableIs, PlaceIs, WrappingIs, elsewhere, lying, member_table_of, missing, no_container, place_of, resources_in, wrapping_of}
use Rattle.mac_rows.specs.declared.file_finding.FileFinding.{FileFinding}
use Rattle.mac_rows.specs.declared.file_finding.FileFinding.TheVariants.{Error}
use Rattle.mac_rows.specs.declared.member_table.FileError.{FileError}

-- the error of the header of a file or of its rows of entries, and of the entry of a fork
abbrev pub header_faults : Option ForkFault → List FileFinding
header_faults None = []
header_faults (Some fault) = Error (record { fault = Fork fault; base = 0; member = None }) ∷ []

abbrev pub entry_faults : Option (Result Lying ForkFault) → List FileFinding
entry_faults None = []
entry_faults (Some (Ok part)) = []
entry_faults (Some (Err fault)) = Error (record { fault = Fork fault; base = 0; member = None }) ∷ []

-- an error of a resource fork that begins at an offset of the file
abbrev pub resource_fault_list : ℕ → Option ResourceFault → List FileFinding
resource_fault_list base None = []
resource_fault_list base (Some fault) = Error (record { fault = Resource fault; base = base; member = None }) ∷ []

-- the errors of a resource: of its row, of its name and of its bytes
abbrev pub name_fault : Option (Result (List ℕ) ResourceFault) → Option ResourceFault
name_fault None = None
name_fault (Some (Ok name)) = None
name_fault (Some (Err fault)) = Some fault

abbrev pub err : {A F : Type 0} → Result A F → Option F
err (Ok x) = None
err (Err fault) = Some fault

abbrev pub resource_faults : ℕ → Result ResourceIs ResourceFault → List FileFinding
resource_faults base (Ok r) = resource_fault_list base (name_fault r.name) ++ resource_fault_list base (err r.contents)
resource_faults base (Err fault) = resource_fault_list base (Some fault)

abbrev pub resources_faults : ℕ → List (Result ResourceIs ResourceFault) → List FileFinding
resources_faults base [] = []
resources_faults base (row ∷ rows) = resource_faults base row ++ resources_faults base rows

-- an error of a table of fragments that begins at an offset of the file
abbrev pub member_fault_list : ℕ → Option MemberFault → List FileFinding
member_fault_list base None = []
member_fault_list base (Some fault) = Error (record { fault = Member fault; base = base; member = None }) ∷ []

-- no container begins where one should be
abbrev pub none_there : MemberTableIs → MemberIs → FileKind → List FileFinding
none_there t m Container = []
none_there t m kind = Error (no_container t m) ∷ []

abbrev pub place_faults : MemberTableIs → MemberIs → PlaceIs → List FileFinding
place_faults t m elsewhere = []
place_faults t m (missing found) = Error found ∷ []
place_faults t m (lying at bytes) = none_there t m (kind_of bytes)

-- the errors of a member: of its name, of its size and of its container
abbrev pub member_faults : MemberTableIs → MemberIs → List FileFinding
member_faults t m =
    member_fault_list t.table_base (err m.name) ++ (member_fault_list t.table_base m.fault ++ place_faults t m (place_of t m))

abbrev pub row_faults : MemberTableIs → Result MemberIs MemberFault → List FileFinding
row_faults t (Ok m) = member_faults t m
row_faults t (Err fault) = member_fault_list t.table_base (Some fault)

abbrev pub members_faults : MemberTableIs → List (Result MemberIs MemberFault) → List FileFinding
members_faults t [] = []
members_faults t (row ∷ rows) = row_faults t row ++ members_faults t rows

-- the error of a table of fragments, or those of its members
abbrev pub table_faults : Option (Result MemberTableIs FileError) → List FileFinding
table_faults None = []
table_faults (Some (Ok t)) = members_faults t (all_members t.fragments)
table_faults (Some (Err found)) = Error found ∷ []

-- the errors of a resource fork, and of its table of fragments
abbrev pub fork_faults : Option Lying → ℕ → ForkIs → List FileFinding
fork_faults data_fork base fork =
    resource_fault_list base (map_is_cut fork)
    ++ (resources_faults base (all_resources fork) ++ table_faults (member_table_of data_fork base fork))

abbrev pub read_faults : Option Lying → ℕ → Option (Result ForkIs ResourceFault) → List FileFinding
read_faults data_fork base None = []
read_faults data_fork base (Some (Ok fork)) = fork_faults data_fork base fork
read_faults data_fork base (Some (Err fault)) = resource_fault_list base (Some fault)

abbrev pub parts_faults : Option Lying → Option Lying → List FileFinding
parts_faults data_fork None = []
parts_faults data_fork (Some part) = read_faults data_fork part.offset (resources_in part)

-- of the header, of the parts of MacBinary that pass the end, and of the rows of entries
abbrev pub head_faults : WrappingIs → List FileFinding
head_faults w =
    header_faults w.fault
    ++ (header_faults w.cuts.data_fork
    ++ (header_faults w.cuts.resource_fork
    ++ (header_faults w.cuts.comment
    ++ header_faults w.cut)))

abbrev pub wrapping_faults : Option DataFileIs → WrappingIs → List FileFinding
wrapping_faults other w =
    head_faults w ++ (entry_faults w.data_fork ++ (entry_faults w.resource_fork ++ parts_faults (members_fork other w.data_fork) (readable w.resource_fork)))

-- all errors of a file but those of its containers. Its data fork may be in another file
unfoldable pub faults_of : Option DataFileIs → List ℕ → List FileFinding
faults_of other bytes = wrapping_faults other (wrapping_of bytes)
