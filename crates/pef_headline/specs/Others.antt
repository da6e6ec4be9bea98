-- Fragments that are refused, and that the linker doesn't write.
use Rattle.std.specs.Prelude.{◌≡◌, ℕ, List, Contains, Some}
use Rattle.cfm_store.specs.Stores.{Pair, pair_of, place_of}
use Rattle.pef_headline.specs.Headline.{IsForeign}

-- one of some fragments of a store has this name and is foreign
pub record HasForeign (pairs : List Pair) (ps : List ℕ) (name : List ℕ) : Type 0 where
  pub position : ℕ
  pub member : Contains ps position
  pub is : name ≡ (pair_of pairs position).name
  pub foreign : IsForeign pairs position

-- the fragment that has a name in a store is foreign
pub record NamesForeign (pairs : List Pair) (name : List ℕ) : Type 0 where
  pub position : ℕ
  pub is : place_of pairs name ≡ Some position
  pub foreign : IsForeign pairs position
