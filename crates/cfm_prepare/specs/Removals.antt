-- A fragment is removed from the store of a context, and why it isn't. The order of the refusals is this project's own rule
-- (docs/RULES.md, "Binding").
use Rattle.std.specs.Prelude.{◌≡◌, ℕ, List, None, Some, false, true}
use Rattle.cfm_store.specs.Stores.{place_of}
use Rattle.cfm_prepare.specs.Contexts.{ContextState, removed}
use Rattle.cfm_prepare.specs.Fragments.{is_present}
use Rattle.cfm_prepare.specs.Steps.{AnyNames}
use Rattle.cfm_prepare.specs.declared.remove_fault.RemoveFault.{RemoveFault}
use Rattle.cfm_prepare.specs.declared.remove_fault.RemoveFault.TheVariants as remove

-- the first fragment with a name, which isn't present
pub record IsUnused (s : ContextState) (name : List ℕ) : Type 0 where
  pub root : ℕ
  pub is : place_of s.pairs name ≡ Some root
  pub absent : is_present s.present root ≡ false

-- the first fragment with a name is removed: it isn't present, and no fragment of an open connection's closure has a library
-- entry with the name
pub record Removes (s : ContextState) (name : List ℕ) (t : ContextState) : Type 0 where
  pub unused : IsUnused s name
  pub unnamed : AnyNames s.connections name → ⊥
  pub is : t ≡ removed s unused.root

-- why it isn't removed: there is none, or else it is present, or else an open connection's closure names it, or an allocation
-- fails
abbrev pub MayNotRemove : ContextState → List ℕ → RemoveFault → Type 0
MayNotRemove s name remove.RootMissing = place_of s.pairs name ≡ None
MayNotRemove s name remove.StillPresent = (root : ℕ) × (place_of s.pairs name ≡ Some root) × (is_present s.present root ≡ true)
MayNotRemove s name remove.StillNamed = IsUnused s name × AnyNames s.connections name
MayNotRemove s name remove.OutOfMemory = IsUnused s name × (AnyNames s.connections name → ⊥)
