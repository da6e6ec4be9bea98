-- The errors that preparations may have in a store with stubs (docs/RULES.md, "Stubs").
use Rattle.std.specs.Prelude.{◌≡◌, ⊤, ℕ, Bool, List, None}
use Rattle.cfm_store.specs.Stores.{Pair, place_of}
use Rattle.cfm_closure.specs.declared.fault.BindFault.{BindFault}
use Rattle.cfm_closure.specs.declared.fault.BindFault.TheVariants as bind
use Rattle.cfm_prepare.specs.declared.fault.PrepareFault.{PrepareFault}
use Rattle.cfm_prepare.specs.declared.fault.PrepareFault.TheVariants as fault
use Rattle.cfm_stubs.specs.Stubbed.{IsOther}

-- an error of a closure: of a symbol or of versions only if the library isn't a stub, of loops, and of memory
abbrev pub BindingEnds : List Pair → (ℕ → Bool) → BindFault → Type 0
BindingEnds pairs stub (bind.Container f v) = ⊥
BindingEnds pairs stub (bind.Loader f v place) = ⊥
BindingEnds pairs stub (bind.LibraryMissing f l place) = ⊥
BindingEnds pairs stub (bind.SymbolMissing f l s place) = IsOther pairs stub l.now
BindingEnds pairs stub (bind.ImplementationTooOld f l place needed found) = IsOther pairs stub l.now
BindingEnds pairs stub (bind.ImplementationTooNew f l place needed found) = IsOther pairs stub l.now
BindingEnds pairs stub (bind.ReexportLoop f s place) = ⊤
BindingEnds pairs stub (bind.InitLoop f place) = ⊤
BindingEnds pairs stub bind.OutOfMemory = ⊤

-- an error of a preparation: of its closure, of the context's bounds, of memory, or of the images and programs of a fragment. A
-- name that the store has isn't missing
abbrev pub PreparationEnds : List Pair → (ℕ → Bool) → List ℕ → PrepareFault → Type 0
PreparationEnds pairs stub asked fault.TooManyConnections = ⊤
PreparationEnds pairs stub asked fault.RootMissing = place_of pairs asked ≡ None
PreparationEnds pairs stub asked (fault.Bind f) = BindingEnds pairs stub f
PreparationEnds pairs stub asked (fault.TooManyBytes f) = ⊤
PreparationEnds pairs stub asked (fault.TooManyStepsInAll f) = ⊤
PreparationEnds pairs stub asked (fault.Fragment f) = ⊤
PreparationEnds pairs stub asked fault.OutOfMemory = ⊤
