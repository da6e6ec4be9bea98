-- Any error of the product, with its number and its name (docs/ERRORS.md). They are those of the crate that finds it;
-- 52, 71, 72, 204 and those of stubs have their numbers here.
use Rattle.std.specs.Prelude.{ℕ, List, Option, None, Some, codes}
use Rattle.cfm_members.specs.MemberLookupFaults as members
use Rattle.cfm_prepare.specs.Faults as prepare
use Rattle.cfm_stubs.specs.Faults as stubs
use Rattle.cfm_stubs.specs.declared.fault.StubFault.{StubFault}
use Rattle.cfm_stubs.specs.declared.fault.StubFault.TheVariants as stub
use Rattle.pef_cert.specs.Text.Faults as cert
use Rattle.pef_listing.specs.Faults as listing
use Rattle.pef_ports.specs.Faults as input
use Rattle.pef_ports.specs.declared.ports.FileReason.{FileReason}
use Rattle.pef_ports.specs.declared.ports.FileReason.TheVariants.{Other}
use Rattle.pef_script.specs.Text.Faults as script
use Rattle.pef_faults.specs.declared.fault.Fault.{Fault}
use Rattle.pef_faults.specs.declared.fault.Fault.TheVariants.{Script, Listing, Certificate, SectionsDiffer, Input, Prepare, Fragment, Untold, StoreFull, Stub, Unreadable, Unwritable, OutOfMemory}

-- the numbers of stubs
abbrev pub stub_number : StubFault → ℕ
stub_number stub.TooManySymbols = 211
stub_number stub.LongName = 212
stub_number stub.TooManyNameBytes = 213
stub_number stub.PastLastNumber = 214
stub_number stub.UnspellableName = 215
stub_number stub.TooManyBytes = 216
stub_number stub.OutOfMemory = 99

-- the numbers
unfoldable pub fault_number : Fault → ℕ
fault_number (Script fault text) = script.script_fault_number fault
fault_number (Listing fault) = listing.fault_number fault
fault_number (Certificate fault) = cert.fault_number fault
fault_number SectionsDiffer = 52
fault_number (Input fault) = input.fault_number fault
fault_number (Prepare fault) = prepare.fault_number fault
fault_number (Fragment fault) = members.member_lookup_fault_number fault
fault_number (Untold path fault) = members.member_lookup_fault_number fault
fault_number StoreFull = 204
fault_number (Stub fault) = stub_number fault
fault_number (Unreadable path reason) = 71
fault_number (Unwritable path reason) = 72
fault_number OutOfMemory = 99

-- the names
unfoldable pub fault_name : Fault → List ℕ
fault_name (Script fault text) = script.script_fault_name fault
fault_name (Listing fault) = listing.fault_name fault
fault_name (Certificate fault) = cert.fault_name fault
fault_name SectionsDiffer = codes "SectionsDiffer"
fault_name (Input fault) = input.fault_name fault
fault_name (Prepare fault) = prepare.fault_name fault
fault_name (Fragment fault) = members.member_lookup_fault_name fault
fault_name (Untold path fault) = members.member_lookup_fault_name fault
fault_name StoreFull = codes "StoreFull"
fault_name (Stub fault) = stubs.fault_name fault
fault_name (Unreadable path reason) = codes "FileUnreadable"
fault_name (Unwritable path reason) = codes "FileUnwritable"
fault_name OutOfMemory = codes "OutOfMemory"

-- the line of a text that is refused
unfoldable pub fault_line : Fault → Option ℕ
fault_line (Script fault text) = script.script_fault_line fault
fault_line (Certificate fault) = cert.fault_line fault
fault_line _ = None

-- the path of a file that couldn't be read or written, or whose fragments can't be told
unfoldable pub fault_path : Fault → Option (List ℕ)
fault_path (Untold path fault) = Some path.now
fault_path (Unreadable path reason) = Some path.now
fault_path (Unwritable path reason) = Some path.now
fault_path _ = None

-- why the file couldn't be read or written
unfoldable pub fault_reason : Fault → FileReason
fault_reason (Unreadable path reason) = reason
fault_reason (Unwritable path reason) = reason
fault_reason _ = Other
