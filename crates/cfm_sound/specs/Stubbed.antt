-- What preparations end with if all containers are sound, and what they lack has stubs.
use Rattle.std.specs.Prelude.{◌≡◌, ◌≢◌, ⊤, ℕ, ◌<◌, Bool, true, List, length, None, Ok, Some}
use Rattle.pef_format.specs.Symbols.{Import}
use Rattle.pef_loader.specs.Loader.{import_of}
use Rattle.cfm_store.specs.Stores.{Pair, pair_of, place_of}
use Rattle.cfm_closure.specs.Fragments.{Fragment, fragment_of}
use Rattle.cfm_closure.specs.Targets.{target_of}
use Rattle.cfm_closure.specs.declared.targets.Target.TheVariants.{Absolute}
use Rattle.cfm_memory.specs.Extents.{Rule}
use Rattle.cfm_prepare.specs.Contexts.{ContextState}
use Rattle.cfm_prepare.specs.Steps.{MayNotPrepareBy}
use Rattle.cfm_prepare.specs.declared.fault.PrepareFault.{PrepareFault}
use Rattle.cfm_prepare.specs.declared.fault.PrepareFault.TheVariants as fault
use Rattle.cfm_prepare.specs.declared.fragment_fault.FragmentFault.{FragmentFault}
use Rattle.cfm_prepare.specs.declared.fragment_fault.FragmentFault.TheVariants as fragment
use Rattle.cfm_stubs.specs.Added.{AreNumberStubs, added_number, is_added, with_stubs}
use Rattle.cfm_stubs.specs.NumberStubs.{MadeStub}
use Rattle.cfm_stubs.specs.Preparations.{BindingEnds}
use Rattle.cfm_stubs.specs.Stubbed.{Names}
use Rattle.pef_inspect.specs.Sound.{IsSound}

-- each pair of a store has a sound container. A container is, if no error is found in it and nothing is left unverified
abbrev pub AreSound : List Pair → Type 0
AreSound pairs = (p : ℕ) → p < length pairs → IsSound (pair_of pairs p).bytes

-- an error of fragments: 67 or 99
abbrev pub FragmentEnds : FragmentFault → Type 0
FragmentEnds (fragment.NoRoom f place) = ⊤
FragmentEnds (fragment.Pack f k place) = ⊥
FragmentEnds (fragment.Reloc f k section place) = ⊥
FragmentEnds fragment.OutOfMemory = ⊤

-- an error of a preparation: 69; 65, 66 or 99 of a closure, and 62, 63 or 64 only of a library that isn't one of the stubs; 67; 99; 70 or
-- 75, which are bounds of the context
abbrev pub Ends : List Pair → (ℕ → Bool) → PrepareFault → Type 0
Ends pairs stub fault.TooManyConnections = ⊤
Ends pairs stub fault.RootMissing = ⊥
Ends pairs stub (fault.Bind f) = BindingEnds pairs stub f
Ends pairs stub (fault.TooManyBytes f) = ⊤
Ends pairs stub (fault.TooManyStepsInAll f) = ⊤
Ends pairs stub (fault.Fragment f) = FragmentEnds f
Ends pairs stub fault.OutOfMemory = ⊤

-- with the stubs of all that sound containers lack after their pairs, the preparation of a name that is there ends with no other
-- error, by whichever rule its sections are placed. All containers of the store are sound then. An import from a stub means the number
-- that the stub's exports have for its name
pub record StubbedPrepare : Type 0 where
  pub ends : (pairs : List Pair) (first step : ℕ) (weak : Bool) (made : List MadeStub) (rule : Rule) (s : ContextState) (asked : List ℕ) (f : PrepareFault) → AreSound pairs → AreNumberStubs pairs first step weak made
      → s.pairs ≡ with_stubs pairs made → place_of s.pairs asked ≢ None → MayNotPrepareBy rule s asked f → Ends s.pairs (is_added pairs made) f
  pub sound : (pairs : List Pair) (first step : ℕ) (weak : Bool) (made : List MadeStub) → AreSound pairs → AreNumberStubs pairs first step weak made → AreSound (with_stubs pairs made)
  pub numbers : (pairs : List Pair) (first step : ℕ) (weak : Bool) (made : List MadeStub) (p j q : ℕ) (f : Fragment) (i : Import) → AreSound pairs → AreNumberStubs pairs first step weak made
      → fragment_of (with_stubs pairs made) p ≡ Ok f → import_of f.loader j ≡ Some i → Names (with_stubs pairs made) p i.library q → is_added pairs made q ≡ true
      → target_of (with_stubs pairs made) p j ≡ Ok (Some (Absolute (added_number pairs made q i.name)))
