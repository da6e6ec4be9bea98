-- No refusal has the number 0.
use Rattle.std.proofs.Common.{◌≡◌, ◌==◌, false, refl}
use Rattle.pef_views.specs.Faults.{fault_number as view_number}
use Rattle.pef_views.specs.declared.fault.ViewFault.{ViewFault}
use Rattle.pef_views.specs.declared.fault.ViewFault.TheVariants as view
use Rattle.pef_loader.specs.Faults.{fault_number as loader_number}
use Rattle.pef_loader.specs.declared.fault.LoaderFault.{LoaderFault}
use Rattle.pef_loader.specs.declared.fault.LoaderFault.TheVariants as loader
use Rattle.pef_pidata.specs.Faults.{fault_number as pack_number}
use Rattle.pef_pidata.specs.declared.fault.PackFault.{PackFault}
use Rattle.pef_pidata.specs.declared.fault.PackFault.TheVariants as pack
use Rattle.pef_reloc.specs.Faults.{fault_number as reloc_number}
use Rattle.pef_reloc.specs.declared.fault.RelocFault.{RelocFault}
use Rattle.pef_reloc.specs.declared.fault.RelocFault.TheVariants as reloc
use Rattle.cfm_closure.specs.Faults.{fault_number as bind_number}
use Rattle.cfm_closure.specs.declared.fault.BindFault.{BindFault}
use Rattle.cfm_closure.specs.declared.fault.BindFault.TheVariants as bind
use Rattle.cfm_prepare.specs.FragmentFaults.{fault_number as fragment_number}
use Rattle.cfm_prepare.specs.declared.fragment_fault.FragmentFault.{FragmentFault}
use Rattle.cfm_prepare.specs.declared.fragment_fault.FragmentFault.TheVariants as fragment
use Rattle.cfm_prepare.specs.Faults.{fault_number}
use Rattle.cfm_prepare.specs.declared.fault.PrepareFault.{PrepareFault}
use Rattle.cfm_prepare.specs.declared.fault.PrepareFault.TheVariants as prepare

view_refused : (f : ViewFault) → (view_number f == 0) ≡ false
view_refused view.TooShort = refl
view_refused view.BadTag = refl
view_refused view.BadArchitecture = refl
view_refused view.BadFormatVersion = refl
view_refused view.BadSectionCounts = refl
view_refused (view.SectionOutside section) = refl
view_refused (view.BadSectionKind section) = refl
view_refused (view.BadSizes section) = refl
view_refused (view.BadAlignment section) = refl
view_refused view.NoLoader = refl

loader_refused : (f : LoaderFault) → (loader_number f == 0) ≡ false
loader_refused loader.LoaderShort = refl
loader_refused loader.BadTableOffset = refl
loader_refused (loader.BadName of) = refl
loader_refused (loader.BadLibraryRange library) = refl
loader_refused (loader.OrphanImport import) = refl
loader_refused (loader.BadEntry entry) = refl
loader_refused (loader.BadRelocSection k) = refl
loader_refused (loader.RelocOutside k) = refl
loader_refused loader.BadExportTable = refl
loader_refused (loader.BadExportSection export) = refl

pack_refused : (f : PackFault) → (pack_number f == 0) ≡ false
pack_refused (pack.Truncated at) = refl
pack_refused (pack.BadOpcode at) = refl
pack_refused (pack.CountTooLarge at) = refl
pack_refused (pack.TooLong at) = refl
pack_refused (pack.TooShort at) = refl
pack_refused pack.OutOfMemory = refl

reloc_refused : (f : RelocFault) → (reloc_number f == 0) ≡ false
reloc_refused (reloc.BadOpcode at) = refl
reloc_refused (reloc.CutInstruction at) = refl
reloc_refused (reloc.RepeatTooFar at) = refl
reloc_refused (reloc.RepeatCuts at) = refl
reloc_refused (reloc.NestedRepeat at) = refl
reloc_refused (reloc.TooManySteps at) = refl
reloc_refused (reloc.WordOutside at word) = refl
reloc_refused (reloc.ImportOutside at word) = refl
reloc_refused (reloc.SectionOutside at word) = refl
reloc_refused reloc.OutOfMemory = refl

bind_refused : (f : BindFault) → (bind_number f == 0) ≡ false
bind_refused (bind.Container f k) = view_refused k
bind_refused (bind.Loader f k place) = loader_refused k
bind_refused (bind.LibraryMissing f l place) = refl
bind_refused (bind.SymbolMissing f l s place) = refl
bind_refused (bind.ImplementationTooOld f l place needed found) = refl
bind_refused (bind.ImplementationTooNew f l place needed found) = refl
bind_refused (bind.ReexportLoop f s place) = refl
bind_refused (bind.InitLoop f place) = refl
bind_refused bind.OutOfMemory = refl

fragment_refused : (f : FragmentFault) → (fragment_number f == 0) ≡ false
fragment_refused (fragment.NoRoom f place) = refl
fragment_refused (fragment.Pack f k place) = pack_refused k
fragment_refused (fragment.Reloc f k section place) = reloc_refused k
fragment_refused fragment.OutOfMemory = refl

pub prepare_refused : (f : PrepareFault) → (fault_number f == 0) ≡ false
prepare_refused prepare.TooManyConnections = refl
prepare_refused prepare.RootMissing = refl
prepare_refused (prepare.Bind f) = bind_refused f
prepare_refused (prepare.TooManyBytes f) = refl
prepare_refused (prepare.TooManyStepsInAll f) = refl
prepare_refused (prepare.Fragment f) = fragment_refused f
prepare_refused prepare.OutOfMemory = refl
