-- Which libraries a preparation would find missing, and why a context can't tell (docs/RULES.md, "Missing libraries").
use Rattle.std.specs.Prelude.{◌≡◌, ℕ, List, None, Some, Ok}
use Rattle.cfm_closure.specs.Faults.{FailsAs}
use Rattle.cfm_closure.specs.Missing.{Missing, missing_of}
use Rattle.cfm_store.specs.Stores.{place_of}
use Rattle.cfm_prepare.specs.Contexts.{ContextState}
use Rattle.cfm_prepare.specs.declared.fault.PrepareFault.{PrepareFault}
use Rattle.cfm_prepare.specs.declared.fault.PrepareFault.TheVariants as fault

-- the name is that of a fragment in this place
pub record IsRoot (s : ContextState) (name : List ℕ) : Type 0 where
  pub root : ℕ
  pub is : place_of s.pairs name ≡ Some root

-- the closure of the fragment with a name lacks these libraries
pub record Lacks (s : ContextState) (name : List ℕ) (missing : List Missing) : Type 0 where
  pub of : IsRoot s name
  pub is : missing_of s.pairs of.root ≡ Ok missing

-- why libraries can't be told: the name isn't in the store, or else a fragment on the walk can't be read. An allocation may fail
-- after the first
abbrev pub MayNotTell : ContextState → List ℕ → PrepareFault → Type 0
MayNotTell s name fault.TooManyConnections = ⊥
MayNotTell s name fault.RootMissing = place_of s.pairs name ≡ None
MayNotTell s name (fault.Bind f) = (of : IsRoot s name) × FailsAs f (missing_of s.pairs of.root)
MayNotTell s name (fault.TooManyBytes f) = ⊥
MayNotTell s name (fault.TooManyStepsInAll f) = ⊥
MayNotTell s name (fault.Fragment f) = ⊥
MayNotTell s name fault.OutOfMemory = IsRoot s name
