-- The memory of a fragment that is present (Mac OS Runtime Architectures, "Code Fragment Manager", "Preparing a
-- Fragment").
use Rattle.std.specs.Prelude.{ℕ, List}
use Rattle.cfm_memory.specs.Extents.{ArePlacedBy, Rule, Stand}
use Rattle.cfm_memory.specs.Instances.{Layout}
use Rattle.cfm_store.specs.Stores.{Pair}
use Rattle.cfm_prepare.specs.Addresses.{section_of}
use Rattle.cfm_prepare.specs.Fragments.{extents_in, places_of, present_of}
use Rattle.cfm_prepare.specs.Contexts.{ContextState}

-- a fragment's sections were placed, as its container says, by some rule in some memory `before`, which are left open here: for
-- linked fragments the headline says which ones. The law `kept_fragments` says that they stay. In the memory of now each has its
-- prepared bytes, with the addresses that its sections and its imports' targets have now
pub record IsPreparedNow (pairs : List Pair) (s : ContextState) (p : ℕ) : Type 0 where
  pub rule : Rule
  pub before : Layout
  pub empty : Layout
  pub placed : ArePlacedBy rule before (extents_in pairs p) (places_of s.present p) empty
  pub stand : Stand s.memory (places_of s.present p) (section_of pairs s.present (present_of s.present p))
