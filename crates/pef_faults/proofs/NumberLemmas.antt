-- The number of each error has its name.
use Rattle.std.proofs.Common.{◌≡◌, ◌∙◌, Some, refl, sym, ap}
use Rattle.pef_refusals.specs.Names.{closure_name, container_name, loader_name, mac_name, name_of, packed_name, port_name, relocation_name, script_name, library_name}
use Rattle.cfm_closure.specs.Faults as bind
use Rattle.cfm_closure.specs.declared.fault.BindFault.{BindFault}
use Rattle.cfm_closure.specs.declared.fault.BindFault.TheVariants as bind_fault
use Rattle.cfm_members.specs.MemberLookupFaults.{member_lookup_fault_name, member_lookup_fault_number}
use Rattle.cfm_members.specs.declared.member_lookup_fault.MemberLookupFault.{MemberLookupFault}
use Rattle.cfm_members.specs.declared.member_lookup_fault.MemberLookupFault.TheVariants as file_fault
use Rattle.cfm_prepare.specs.Faults as prepare
use Rattle.cfm_prepare.specs.FragmentFaults as fragment
use Rattle.cfm_prepare.specs.declared.fault.PrepareFault.{PrepareFault}
use Rattle.cfm_prepare.specs.declared.fault.PrepareFault.TheVariants as prepare_fault
use Rattle.cfm_prepare.specs.declared.fragment_fault.FragmentFault as present
use Rattle.cfm_prepare.specs.declared.fragment_fault.FragmentFault.TheVariants as fragment_fault
use Rattle.pef_listing.specs.Faults as listing
use Rattle.pef_listing.specs.declared.fault.ListFault.{ListFault}
use Rattle.pef_listing.specs.declared.fault.ListFault.TheVariants as list_fault
use Rattle.pef_script.specs.declared.text.fault.ScriptFault.{ScriptFault}
use Rattle.pef_script.specs.declared.text.fault.ScriptFault.TheVariants as script_kind
use Rattle.cfm_stubs.specs.Faults as stubs
use Rattle.cfm_stubs.specs.declared.fault.StubFault.{StubFault}
use Rattle.cfm_stubs.specs.declared.fault.StubFault.TheVariants as stub
use Rattle.pef_faults.specs.Faults.{fault_name, fault_number, stub_number}
use Rattle.pef_faults.specs.Numbers.{AreNumbered}
use Rattle.pef_faults.specs.declared.fault.Fault.{Fault}
use Rattle.pef_faults.specs.declared.fault.Fault.TheVariants.{Script, Listing, Certificate, SectionsDiffer, Input, Prepare, Fragment, Untold, StoreFull, Stub, Unreadable, Unwritable, OutOfMemory}
use Rattle.pef_views.specs.Faults as views
use Rattle.pef_views.specs.declared.fault.ViewFault.{ViewFault}
use Rattle.pef_views.specs.declared.fault.ViewFault.TheVariants as views_fault
use Rattle.pef_loader.specs.Faults as loader
use Rattle.pef_loader.specs.declared.fault.LoaderFault.{LoaderFault}
use Rattle.pef_loader.specs.declared.fault.LoaderFault.TheVariants as loader_fault
use Rattle.pef_pidata.specs.Faults as pidata
use Rattle.pef_pidata.specs.declared.fault.PackFault.{PackFault}
use Rattle.pef_pidata.specs.declared.fault.PackFault.TheVariants as pidata_fault
use Rattle.pef_reloc.specs.Faults as reloc
use Rattle.pef_reloc.specs.declared.fault.RelocFault.{RelocFault}
use Rattle.pef_reloc.specs.declared.fault.RelocFault.TheVariants as reloc_fault
use Rattle.pef_script.specs.Text.Faults as script
use Rattle.pef_script.specs.declared.text.fault.LineFault.{LineFault}
use Rattle.pef_script.specs.declared.text.fault.LineFault.TheVariants as script_fault
use Rattle.cfm_members.specs.Faults as members
use Rattle.cfm_members.specs.declared.fault.MemberFault.{MemberFault}
use Rattle.cfm_members.specs.declared.fault.MemberFault.TheVariants as members_fault
use Rattle.mac_forks.specs.Faults as forks
use Rattle.mac_forks.specs.declared.fault.ForkFault.{ForkFault}
use Rattle.mac_forks.specs.declared.fault.ForkFault.TheVariants as forks_fault
use Rattle.mac_resources.specs.Faults as resources
use Rattle.mac_resources.specs.declared.fault.ResourceFault.{ResourceFault}
use Rattle.mac_resources.specs.declared.fault.ResourceFault.TheVariants as resources_fault
use Rattle.pef_cert.specs.Text.Faults as cert
use Rattle.pef_cert.specs.declared.text.fault.CertFault.{CertFault}
use Rattle.pef_cert.specs.declared.text.fault.CertFault.TheVariants as cert_fault
use Rattle.pef_ports.specs.Faults as ports
use Rattle.pef_ports.specs.declared.input.InputFault.{InputFault}
use Rattle.pef_ports.specs.declared.input.InputFault.TheVariants as ports_fault

view-named : (f : ViewFault) → name_of (views.fault_number f) ≡ Some (views.fault_name f)
unfolding container_name
view-named views_fault.TooShort = refl
view-named views_fault.BadTag = refl
view-named views_fault.BadArchitecture = refl
view-named views_fault.BadFormatVersion = refl
view-named views_fault.BadSectionCounts = refl
view-named (views_fault.SectionOutside section) = refl
view-named (views_fault.BadSectionKind section) = refl
view-named (views_fault.BadSizes section) = refl
view-named (views_fault.BadAlignment section) = refl
view-named views_fault.NoLoader = refl

loader-named : (f : LoaderFault) → name_of (loader.fault_number f) ≡ Some (loader.fault_name f)
unfolding loader_name
loader-named loader_fault.LoaderShort = refl
loader-named loader_fault.BadTableOffset = refl
loader-named (loader_fault.BadName of) = refl
loader-named (loader_fault.BadLibraryRange library) = refl
loader-named (loader_fault.OrphanImport import) = refl
loader-named (loader_fault.BadEntry entry) = refl
loader-named (loader_fault.BadRelocSection k) = refl
loader-named (loader_fault.RelocOutside k) = refl
loader-named loader_fault.BadExportTable = refl
loader-named (loader_fault.BadExportSection export) = refl

pack-named : (f : PackFault) → name_of (pidata.fault_number f) ≡ Some (pidata.fault_name f)
unfolding packed_name port_name
pack-named (pidata_fault.Truncated at) = refl
pack-named (pidata_fault.BadOpcode at) = refl
pack-named (pidata_fault.CountTooLarge at) = refl
pack-named (pidata_fault.TooLong at) = refl
pack-named (pidata_fault.TooShort at) = refl
pack-named pidata_fault.OutOfMemory = refl

reloc-named : (f : RelocFault) → name_of (reloc.fault_number f) ≡ Some (reloc.fault_name f)
unfolding relocation_name port_name
reloc-named (reloc_fault.BadOpcode at) = refl
reloc-named (reloc_fault.CutInstruction at) = refl
reloc-named (reloc_fault.RepeatTooFar at) = refl
reloc-named (reloc_fault.RepeatCuts at) = refl
reloc-named (reloc_fault.NestedRepeat at) = refl
reloc-named (reloc_fault.TooManySteps at) = refl
reloc-named (reloc_fault.WordOutside at word) = refl
reloc-named (reloc_fault.ImportOutside at word) = refl
reloc-named (reloc_fault.SectionOutside at word) = refl
reloc-named reloc_fault.OutOfMemory = refl

line-named : (f : LineFault) → name_of (script.fault_number f) ≡ Some (script.fault_name f)
unfolding script_name
line-named (script_fault.BadLine word) = refl
line-named (script_fault.BadNumber word) = refl
line-named (script_fault.UnknownName word) = refl
line-named (script_fault.RepeatedName word) = refl
line-named (script_fault.OutOfOrder word) = refl
line-named (script_fault.Overlap word) = refl
line-named (script_fault.OutsideSection word) = refl
line-named (script_fault.TooMany word) = refl
line-named (script_fault.BadKind word) = refl

member-named : (f : MemberFault) → name_of (members.fault_number f) ≡ Some (members.fault_name f)
unfolding mac_name
member-named members_fault.FragmentTableCut = refl
member-named members_fault.BadFragmentTable = refl
member-named (members_fault.MemberCut member offset) = refl
member-named (members_fault.MemberNameCut member offset) = refl
member-named (members_fault.FragmentOutside member offset) = refl

fork-named : (f : ForkFault) → name_of (forks.fault_number f) ≡ Some (forks.fault_name f)
unfolding mac_name
fork-named forks_fault.BadMacBinaryCrc = refl
fork-named forks_fault.AppleHeaderCut = refl
fork-named forks_fault.BadAppleVersion = refl
fork-named (forks_fault.AppleEntryCut entry) = refl
fork-named (forks_fault.AppleEntryOutside entry) = refl
fork-named (forks_fault.AppleEntryShort entry) = refl
fork-named forks_fault.DataForkCut = refl
fork-named forks_fault.ResourceForkCut = refl
fork-named forks_fault.CommentCut = refl

resource-named : (f : ResourceFault) → name_of (resources.fault_number f) ≡ Some (resources.fault_name f)
unfolding mac_name
resource-named resources_fault.ResourceMapOutside = refl
resource-named (resources_fault.BadTypeList offset) = refl
resource-named (resources_fault.ResourceTypeCut type_row offset) = refl
resource-named (resources_fault.TooManyReferences type_row offset) = refl
resource-named (resources_fault.ReferenceCut type_row row offset) = refl
resource-named (resources_fault.ResourceNameCut type_row row offset) = refl
resource-named (resources_fault.ResourceDataOutside type_row row offset) = refl

certificate-named : (f : CertFault) → name_of (cert.fault_number f) ≡ Some (cert.fault_name f)
unfolding closure_name port_name
certificate-named (cert_fault.BadCertificate line) = refl
certificate-named cert_fault.OutOfMemory = refl

input-named : (f : InputFault) → name_of (ports.fault_number f) ≡ Some (ports.fault_name f)
unfolding port_name
input-named ports_fault.Unreadable = refl
input-named ports_fault.TooLong = refl
input-named ports_fault.OutOfMemory = refl

script-named : (f : ScriptFault) → name_of (script.script_fault_number f) ≡ Some (script.script_fault_name f)
unfolding port_name
script-named (script_kind.Refused what line word earlier) = line-named what
script-named script_kind.OutOfMemory = refl

listing-named : (f : ListFault) → name_of (listing.fault_number f) ≡ Some (listing.fault_name f)
listing-named (list_fault.View f) = view-named f
listing-named (list_fault.Loader f place) = loader-named f
listing-named (list_fault.Reloc program) = reloc-named program.fault

file-named : (f : MemberLookupFault) → name_of (member_lookup_fault_number f) ≡ Some (member_lookup_fault_name f)
unfolding mac_name
file-named (file_fault.Fork f) = fork-named f
file-named (file_fault.Resource f) = resource-named f
file-named (file_fault.Member f) = member-named f
file-named file_fault.NoContainer = refl

bind-named : (f : BindFault) → name_of (bind.fault_number f) ≡ Some (bind.fault_name f)
unfolding closure_name port_name
bind-named (bind_fault.Container f v) = view-named v
bind-named (bind_fault.Loader f v place) = loader-named v
bind-named (bind_fault.LibraryMissing f l place) = refl
bind-named (bind_fault.SymbolMissing f l s place) = refl
bind-named (bind_fault.ImplementationTooOld f l place needed found) = refl
bind-named (bind_fault.ImplementationTooNew f l place needed found) = refl
bind-named (bind_fault.ReexportLoop f s place) = refl
bind-named (bind_fault.InitLoop f place) = refl
bind-named bind_fault.OutOfMemory = refl

fragment-named : (f : present.FragmentFault) → name_of (fragment.fault_number f) ≡ Some (fragment.fault_name f)
unfolding closure_name port_name
fragment-named (fragment_fault.NoRoom f place) = refl
fragment-named (fragment_fault.Pack f k place) = pack-named k
fragment-named (fragment_fault.Reloc f k section place) = reloc-named k
fragment-named fragment_fault.OutOfMemory = refl

prepare-named : (f : PrepareFault) → name_of (prepare.fault_number f) ≡ Some (prepare.fault_name f)
unfolding closure_name port_name
prepare-named prepare_fault.TooManyConnections = refl
prepare-named prepare_fault.RootMissing = refl
prepare-named (prepare_fault.Bind f) = bind-named f
prepare-named (prepare_fault.TooManyBytes f) = refl
prepare-named (prepare_fault.TooManyStepsInAll f) = refl
prepare-named (prepare_fault.Fragment f) = fragment-named f
prepare-named prepare_fault.OutOfMemory = refl

stub-named : (f : StubFault) → name_of (stub_number f) ≡ Some (stubs.fault_name f)
unfolding library_name port_name
stub-named stub.TooManySymbols = refl
stub-named stub.LongName = refl
stub-named stub.TooManyNameBytes = refl
stub-named stub.PastLastNumber = refl
stub-named stub.UnspellableName = refl
stub-named stub.TooManyBytes = refl
stub-named stub.OutOfMemory = refl

named : (f : Fault) → name_of (fault_number f) ≡ Some (fault_name f)
unfolding fault_name fault_number closure_name port_name library_name
named (Script fault text) = script-named fault
named (Listing fault) = listing-named fault
named (Certificate fault) = certificate-named fault
named SectionsDiffer = refl
named (Input fault) = input-named fault
named (Prepare fault) = prepare-named fault
named (Fragment fault) = file-named fault
named (Untold path fault) = file-named fault
named StoreFull = refl
named (Stub fault) = stub-named fault
named (Unreadable path reason) = refl
named (Unwritable path reason) = refl
named OutOfMemory = refl

-- so two errors with one number have one name
own : (f g : Fault) → fault_number f ≡ fault_number g → fault_name f ≡ fault_name g
own f g same = (let both : Some (fault_name f) ≡ Some (fault_name g) = sym (named f) ∙ ap name_of same ∙ named g in cc both)

pub are_numbered : AreNumbered
are_numbered = record { named = named; own = own }
