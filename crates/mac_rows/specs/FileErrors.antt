-- What the errors of the wrapping of a file, of its resources and of its fragments are about.
use Rattle.std.specs.Prelude.{ℕ, ◌+◌, List, Option, None, Some, codes}
use Rattle.mac_forks.specs.Faults as fork
use Rattle.mac_forks.specs.declared.fault.ForkFault.{ForkFault}
use Rattle.mac_forks.specs.declared.fault.ForkFault.TheVariants.{BadMacBinaryCrc, AppleHeaderCut, BadAppleVersion, AppleEntryCut, AppleEntryOutside, AppleEntryShort, DataForkCut, ResourceForkCut, CommentCut}
use Rattle.mac_resources.specs.Faults as resource
use Rattle.cfm_members.specs.Faults as members
use Rattle.cfm_members.specs.declared.fault.MemberFault.{MemberFault}
use Rattle.cfm_members.specs.declared.fault.MemberFault.TheVariants.{FragmentTableCut, BadFragmentTable, MemberCut, MemberNameCut, FragmentOutside}
use Rattle.cfm_members.specs.declared.member_lookup_fault.MemberLookupFault.{MemberLookupFault}
use Rattle.cfm_members.specs.declared.member_lookup_fault.MemberLookupFault.TheVariants.{Fork, Resource, Member, NoContainer}
use Rattle.mac_rows.specs.Sums.{up_to}
use Rattle.mac_rows.specs.declared.member_table.FileError.{FileError}

-- the part of the file that an error is about
abbrev pub part_key : MemberLookupFault → List ℕ
part_key (Fork fault) = codes "fork"
part_key (Resource fault) = codes "resource"
part_key (Member fault) = codes "fragment"
part_key NoContainer = codes "fragment"

-- the number of the entry, or of the member
abbrev pub entry_of : ForkFault → Option ℕ
entry_of BadMacBinaryCrc = None
entry_of AppleHeaderCut = None
entry_of BadAppleVersion = None
entry_of (AppleEntryCut entry) = Some entry
entry_of (AppleEntryOutside entry) = Some entry
entry_of (AppleEntryShort entry) = Some entry
entry_of DataForkCut = None
entry_of ResourceForkCut = None
entry_of CommentCut = None

abbrev pub member_of : MemberFault → Option ℕ
member_of FragmentTableCut = None
member_of BadFragmentTable = None
member_of (MemberCut member offset) = Some member
member_of (MemberNameCut member offset) = Some member
member_of (FragmentOutside member offset) = Some member

abbrev pub row_of : Option ℕ → MemberLookupFault → Option ℕ
row_of member (Fork fault) = entry_of fault
row_of member (Resource fault) = None
row_of member (Member fault) = member_of fault
row_of member NoContainer = member

abbrev pub error_row : FileError → Option ℕ
error_row found = row_of found.member found.fault

-- the offset in the file of the field
abbrev pub offset_from : ℕ → MemberLookupFault → Option ℕ
offset_from base (Fork fault) = fork.fault_offset fault
offset_from base (Resource fault) = Some (up_to (base + resource.fault_offset fault))
offset_from base (Member fault) = Some (up_to (base + members.fault_offset fault))
offset_from base NoContainer = Some base

abbrev pub error_offset : FileError → Option ℕ
error_offset found = offset_from found.base found.fault
