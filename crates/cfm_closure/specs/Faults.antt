-- The refusals of closures, with their numbers, names and places.
use Rattle.std.specs.Prelude.{◌≡◌, ℕ, List, Option, None, Some, codes, Result, Ok, Err}
use Rattle.pef_format.specs.declared.place.Place.{Place}
use Rattle.pef_views.specs.declared.fault.ViewFault.{ViewFault}
use Rattle.pef_views.specs.Faults.{fault_name as view_fault_name, fault_number as view_fault_number, fault_place as view_fault_place}
use Rattle.pef_loader.specs.declared.fault.LoaderFault.{LoaderFault}
use Rattle.pef_loader.specs.Faults.{fault_name as loader_fault_name, fault_number as loader_fault_number}
use Rattle.cfm_closure.specs.declared.fault.BindFault.{BindFault}
use Rattle.cfm_closure.specs.declared.fault.BindFault.TheVariants as fault
use Rattle.cfm_closure.specs.declared.versions.Definition.{Definition}
use Rattle.cfm_closure.specs.declared.versions.Implementation.{Implementation}

-- why a fragment has no closure, with the names that are reported: of the fragment, of its library, of
-- its symbol; with the place in the fragment's container, and the versions that don't fit
pub data BindRefusal : Type 0 where
  no_container : List ℕ → ViewFault → BindRefusal
  no_loader : List ℕ → LoaderFault → Place → BindRefusal
  library_missing : List ℕ → List ℕ → Place → BindRefusal
  symbol_missing : List ℕ → List ℕ → List ℕ → Place → BindRefusal
  implementation_too_old : List ℕ → List ℕ → Place → Definition → Implementation → BindRefusal
  implementation_too_new : List ℕ → List ℕ → Place → Definition → Implementation → BindRefusal
  reexport_loop : List ℕ → List ℕ → Place → BindRefusal
  init_loop : List ℕ → Place → BindRefusal

-- a fault is the expected refusal, unless an allocation failed
abbrev pub FailsAs : {A : Type 0} → BindFault → Result A BindRefusal → Type 0
FailsAs (fault.Container f v) expected = expected ≡ Err (no_container f.now v)
FailsAs (fault.Loader f v place) expected = expected ≡ Err (no_loader f.now v place)
FailsAs (fault.LibraryMissing f l place) expected = expected ≡ Err (library_missing f.now l.now place)
FailsAs (fault.SymbolMissing f l s place) expected = expected ≡ Err (symbol_missing f.now l.now s.now place)
FailsAs (fault.ImplementationTooOld f l place needed found) expected = expected ≡ Err (implementation_too_old f.now l.now place needed found)
FailsAs (fault.ImplementationTooNew f l place needed found) expected = expected ≡ Err (implementation_too_new f.now l.now place needed found)
FailsAs (fault.ReexportLoop f s place) expected = expected ≡ Err (reexport_loop f.now s.now place)
FailsAs (fault.InitLoop f place) expected = expected ≡ Err (init_loop f.now place)
FailsAs fault.OutOfMemory expected = Unit {0}

-- a result is the expected one, with a function applied to its value, unless an allocation failed
abbrev pub Answers : {A B : Type 0} → (A → B) → Result A BindFault → Result B BindRefusal → Type 0
Answers seen (Ok x) expected = expected ≡ Ok (seen x)
Answers seen (Err e) expected = FailsAs e expected

abbrev pub fault_number : BindFault → ℕ
fault_number (fault.Container f v) = view_fault_number v
fault_number (fault.Loader f v place) = loader_fault_number v
fault_number (fault.LibraryMissing f l place) = 61
fault_number (fault.SymbolMissing f l s place) = 62
fault_number (fault.ImplementationTooOld f l place needed found) = 63
fault_number (fault.ImplementationTooNew f l place needed found) = 64
fault_number (fault.ReexportLoop f s place) = 65
fault_number (fault.InitLoop f place) = 66
fault_number fault.OutOfMemory = 99

-- the names of the refusals, which are their texts
abbrev pub fault_name : BindFault → List ℕ
fault_name (fault.Container f v) = view_fault_name v
fault_name (fault.Loader f v place) = loader_fault_name v
fault_name (fault.LibraryMissing f l place) = codes "LibraryMissing"
fault_name (fault.SymbolMissing f l s place) = codes "SymbolMissing"
fault_name (fault.ImplementationTooOld f l place needed found) = codes "ImplementationTooOld"
fault_name (fault.ImplementationTooNew f l place needed found) = codes "ImplementationTooNew"
fault_name (fault.ReexportLoop f s place) = codes "ReexportLoop"
fault_name (fault.InitLoop f place) = codes "InitLoop"
fault_name fault.OutOfMemory = codes "OutOfMemory"

-- the places of the refusals in the container of the fragment that they name
abbrev pub fault_place : BindFault → Option Place
fault_place (fault.Container f v) = view_fault_place v
fault_place (fault.Loader f v place) = Some place
fault_place (fault.LibraryMissing f l place) = Some place
fault_place (fault.SymbolMissing f l s place) = Some place
fault_place (fault.ImplementationTooOld f l place needed found) = Some place
fault_place (fault.ImplementationTooNew f l place needed found) = Some place
fault_place (fault.ReexportLoop f s place) = Some place
fault_place (fault.InitLoop f place) = Some place
fault_place fault.OutOfMemory = None
