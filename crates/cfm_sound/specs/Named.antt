-- Which fragment a preparation names if its bytes are refused, and what is found in them.
use Rattle.std.specs.Prelude.{◌≡◌, ◌≢◌, ◌≤◌, ℕ, List, [], Some}
use Rattle.cfm_store.specs.Stores.{Pair, pair_of, place_of}
use Rattle.cfm_closure.specs.declared.fault.BindFault.{BindFault}
use Rattle.cfm_closure.specs.declared.fault.BindFault.TheVariants as bind
use Rattle.cfm_memory.specs.Extents.{Rule}
use Rattle.cfm_prepare.specs.Contexts.{ContextState}
use Rattle.cfm_prepare.specs.Faults.{fault_number}
use Rattle.cfm_prepare.specs.Steps.{MayNotPrepareBy}
use Rattle.cfm_prepare.specs.declared.fault.PrepareFault.{PrepareFault}
use Rattle.cfm_prepare.specs.declared.fault.PrepareFault.TheVariants as fault
use Rattle.cfm_prepare.specs.declared.fragment_fault.FragmentFault.{FragmentFault}
use Rattle.cfm_prepare.specs.declared.fragment_fault.FragmentFault.TheVariants as fragment
use Rattle.pef_inspect.specs.Errors.{errors_within}
use Rattle.pef_inspect.specs.Sound.{IsSound}
use Rattle.pef_inspect.specs.declared.limits.Limits.{Limits}

-- the fragment that a name means in a store has no sound container: within any limits an error is found in it, or something is
-- left unverified
pub record NamesUnsound (pairs : List Pair) (name : List ℕ) : Type 0 where
  pub position : ℕ
  pub is : place_of pairs name ≡ Some position
  pub unsound : IsSound (pair_of pairs position).bytes → ⊥
  pub found : (limits : Limits) → errors_within limits (pair_of pairs position).bytes ≢ []

-- an error names such a fragment
abbrev pub BindingNames : List Pair → BindFault → Type 0
BindingNames pairs (bind.Container f v) = NamesUnsound pairs f.now
BindingNames pairs (bind.Loader f v place) = NamesUnsound pairs f.now
BindingNames pairs (bind.LibraryMissing f l place) = ⊥
BindingNames pairs (bind.SymbolMissing f l s place) = ⊥
BindingNames pairs (bind.ImplementationTooOld f l place needed found) = ⊥
BindingNames pairs (bind.ImplementationTooNew f l place needed found) = ⊥
BindingNames pairs (bind.ReexportLoop f s place) = ⊥
BindingNames pairs (bind.InitLoop f place) = ⊥
BindingNames pairs bind.OutOfMemory = ⊥

abbrev pub FragmentNames : List Pair → FragmentFault → Type 0
FragmentNames pairs (fragment.NoRoom f place) = ⊥
FragmentNames pairs (fragment.Pack f k place) = NamesUnsound pairs f.now
FragmentNames pairs (fragment.Reloc f k section place) = NamesUnsound pairs f.now
FragmentNames pairs fragment.OutOfMemory = ⊥

abbrev pub Names : List Pair → PrepareFault → Type 0
Names pairs fault.TooManyConnections = ⊥
Names pairs fault.RootMissing = ⊥
Names pairs (fault.Bind f) = BindingNames pairs f
Names pairs (fault.TooManyBytes f) = ⊥
Names pairs (fault.TooManyStepsInAll f) = ⊥
Names pairs (fault.Fragment f) = FragmentNames pairs f
Names pairs fault.OutOfMemory = ⊥

-- each error of 1 to 39 that `Context::prepare` or `prepare_at` may report, in the words of their own clauses, names such a
-- fragment
abbrev pub NamesOnlyUnsound : Type 0
NamesOnlyUnsound = (rule : Rule) (s : ContextState) (asked : List ℕ) (f : PrepareFault) → fault_number f ≤ 39 → MayNotPrepareBy rule s asked f → Names s.pairs f
