-- Which pairs can be added to a store, and removed from it, while a closure of it stays what it is (docs/RULES.md,
-- "Binding").
use Rattle.std.specs.Prelude.{◌≡◌, ◌⊎◌, ℕ, List, Some, Contains, IsSome}
use Rattle.pef_loader.specs.Library.{Library}
use Rattle.pef_loader.specs.Loader.{Loaded, library_of}
use Rattle.cfm_store.specs.Stores.{Pair, place_of}
use Rattle.cfm_closure.specs.Fragments.{loader_at}

-- a fragment of an order has a library entry with a name
pub record NamesLibrary (pairs : List Pair) (order : List ℕ) (name : List ℕ) : Type 0 where
  pub fragment : ℕ
  pub member : Contains order fragment
  pub loader : Loaded
  pub read : loader_at pairs fragment ≡ Some loader
  pub index : ℕ
  pub library : Library
  pub entry : library_of loader index ≡ Some library
  pub named : library.name ≡ name

-- the store has a pair with this name, or no fragment of an order has a library entry with it
abbrev pub MayBeAdded : List Pair → List ℕ → List ℕ → Type 0
MayBeAdded pairs order name = IsSome (place_of pairs name) ⊎ (NamesLibrary pairs order name → ⊥)

-- the pair in a place is the first with a name. An order lacks the place, and no fragment of the order has a library entry
-- with the name
pub record MayBeRemoved (pairs : List Pair) (order : List ℕ) (name : List ℕ) (p : ℕ) : Type 0 where
  pub first : place_of pairs name ≡ Some p
  pub absent : Contains order p → ⊥
  pub unnamed : NamesLibrary pairs order name → ⊥
