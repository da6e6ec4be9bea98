-- The fragments of a store that were read.
use Rattle.std.specs.Prelude.{◌≡◌, ℕ, List, length, slice_index_or, Option, Some, None, option_map, Ok}
use Rattle.cfm_store.specs.Stores.{Pair}
use Rattle.cfm_closure.specs.declared.fragment.FragmentView.{FragmentView}
use Rattle.cfm_closure.specs.Fragments.{Fragment, fragment_of}
use Rattle.cfm_closure.specs.Views.{fragment_seen}

-- the fragment that a table has in a place
abbrev pub fragment_at : List (Option FragmentView) → ℕ → Option Fragment
fragment_at table p = option_map fragment_seen (slice_index_or table p None)

-- the fragments of a table were read from the store
abbrev pub AreRead : List Pair → List (Option FragmentView) → Type 0
AreRead pairs table = (p : ℕ) (f : Fragment) → fragment_at table p ≡ Some f → fragment_of pairs p ≡ Ok f

-- a table has a place for each fragment of the store, and its fragments were read from there
pub record AreViews (pairs : List Pair) (table : List (Option FragmentView)) : Type 0 where
  pub size : length table ≡ length pairs
  pub read : AreRead pairs table

-- the fragments of one table are in another too
abbrev pub AreKept : List (Option FragmentView) → List (Option FragmentView) → Type 0
AreKept old new = (p : ℕ) (f : Fragment) → fragment_at old p ≡ Some f → fragment_at new p ≡ Some f
