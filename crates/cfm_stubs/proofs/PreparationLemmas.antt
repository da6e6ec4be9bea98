-- The errors of preparations in a store with stubs.
use Rattle.std.proofs.Common.{ℕ, ◌<◌, Bool, List, length}
use Rattle.cfm_store.specs.Stores.{Pair}
use Rattle.cfm_store.proofs.Laws.{place_of-below}
use Rattle.cfm_closure.specs.Closures.{closed_of}
use Rattle.cfm_closure.specs.Faults.{FailsAs, implementation_too_new, implementation_too_old, library_missing, no_container, no_loader, symbol_missing}
use Rattle.cfm_closure.specs.declared.fault.BindFault.{BindFault}
use Rattle.cfm_closure.specs.declared.fault.BindFault.TheVariants as bind
use Rattle.cfm_memory.specs.Extents.{Rule}
use Rattle.cfm_prepare.specs.Contexts.{ContextState}
use Rattle.cfm_prepare.specs.Steps.{MayNotPrepareBy}
use Rattle.cfm_prepare.specs.declared.fault.PrepareFault.{PrepareFault}
use Rattle.cfm_prepare.specs.declared.fault.PrepareFault.TheVariants as fault
use Rattle.cfm_stubs.specs.Preparations.{BindingEnds, PreparationEnds}
use Rattle.cfm_stubs.specs.Stubbed.{IsStubbed}
use Rattle.cfm_stubs.proofs.StubbedLemmas.{closed-may_end}

binding-ends : (pairs : List Pair) (stub : ℕ → Bool) (number : ℕ → List ℕ → ℕ) (root : ℕ) (f : BindFault) → IsStubbed pairs stub number → root < length pairs → FailsAs f (closed_of pairs root) → BindingEnds pairs stub f
binding-ends pairs stub number root (bind.Container f v) stubbed inside fails = closed-may_end pairs stub number stubbed root (no_container f.now v) inside fails
binding-ends pairs stub number root (bind.Loader f v place) stubbed inside fails = closed-may_end pairs stub number stubbed root (no_loader f.now v place) inside fails
binding-ends pairs stub number root (bind.LibraryMissing f l place) stubbed inside fails = closed-may_end pairs stub number stubbed root (library_missing f.now l.now place) inside fails
binding-ends pairs stub number root (bind.SymbolMissing f l s place) stubbed inside fails = closed-may_end pairs stub number stubbed root (symbol_missing f.now l.now s.now place) inside fails
binding-ends pairs stub number root (bind.ImplementationTooOld f l place needed found) stubbed inside fails = closed-may_end pairs stub number stubbed root (implementation_too_old f.now l.now place needed found) inside fails
binding-ends pairs stub number root (bind.ImplementationTooNew f l place needed found) stubbed inside fails = closed-may_end pairs stub number stubbed root (implementation_too_new f.now l.now place needed found) inside fails
binding-ends pairs stub number root (bind.ReexportLoop f s place) stubbed inside fails = tt
binding-ends pairs stub number root (bind.InitLoop f place) stubbed inside fails = tt
binding-ends pairs stub number root bind.OutOfMemory stubbed inside fails = tt

pub preparation-ends : (rule : Rule) (s : ContextState) (asked : List ℕ) (f : PrepareFault) (stub : ℕ → Bool) (number : ℕ → List ℕ → ℕ) → IsStubbed s.pairs stub number → MayNotPrepareBy rule s asked f → PreparationEnds s.pairs stub asked f
preparation-ends rule s asked fault.TooManyConnections stub number stubbed why = tt
preparation-ends rule s asked fault.RootMissing stub number stubbed why = why.1
preparation-ends rule s asked (fault.Bind f) stub number stubbed why =
    binding-ends s.pairs stub number why.0.root f stubbed (place_of-below s.pairs asked why.0.root why.0.is) why.1
preparation-ends rule s asked (fault.TooManyBytes f) stub number stubbed why = tt
preparation-ends rule s asked (fault.TooManyStepsInAll f) stub number stubbed why = tt
preparation-ends rule s asked (fault.Fragment f) stub number stubbed why = tt
preparation-ends rule s asked fault.OutOfMemory stub number stubbed why = tt
