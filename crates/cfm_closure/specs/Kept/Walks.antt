-- The effect of a walk.
use Rattle.std.specs.Prelude.{◌≡◌, ◌≢◌, ℕ, ◌+◌, ◌<◌, ◌≤◌, Bool, true, false, List, length, slice_index_or, Option, None, Some, Ok, Contains, AllPairs, ◌⊎◌, if◌then◌else◌}
use Rattle.std.specs.Option.{option_and_then}
use Rattle.cfm_store.specs.Stores.{Pair}
use Rattle.cfm_closure.specs.Fragments.{Fragment, fragment_of}
use Rattle.cfm_closure.specs.Libraries.{bound_to}
use Rattle.cfm_closure.specs.Walk.{Walked, is_marked, left}

-- a library entry wasn't refused, and its fragment, if it exists, was visited
pub record IsBound (pairs : List Pair) (marked : List Bool) (p l : ℕ) : Type 0 where
  pub bound : Option ℕ
  pub is : bound_to pairs p l ≡ Ok bound
  pub met : (q : ℕ) → bound ≡ Some q → slice_index_or marked q true ≡ true

-- a fragment wasn't refused, nor was any of its library entries
pub record IsDone (pairs : List Pair) (marked : List Bool) (p : ℕ) : Type 0 where
  pub fragment : Fragment
  pub read : fragment_of pairs p ≡ Ok fragment
  pub libraries : (l : ℕ) → l < fragment.loader.header.library_count → IsBound pairs marked p l

-- each fragment of an order was visited, and is in it once
pub record IsTidy (s : Walked) : Type 0 where
  pub met : (q : ℕ) → Contains s.order q → is_marked s q ≡ true
  pub once : AllPairs (λ p q. p ≢ q) s.order

-- a walk leads from one state to another
pub record Reaches (pairs : List Pair) (s t : Walked) : Type 0 where
  -- visited fragments stay visited, and newly visited ones join the order
  pub size : length t.marked ≡ length s.marked
  pub marks : (q : ℕ) → is_marked s q ≡ true → is_marked t q ≡ true
  pub joins : (q : ℕ) → is_marked t q ≡ true → (is_marked s q ≡ true) ⊎ Contains t.order q
  -- the order grows by fragments that weren't visited before, and that are done
  pub kept : (q : ℕ) → Contains s.order q → Contains t.order q
  pub fresh : (q : ℕ) → Contains t.order q → Contains s.order q ⊎ (is_marked s q ≡ false)
  pub done : (q : ℕ) → Contains t.order q → Contains s.order q ⊎ IsDone pairs t.marked q
  pub tidy : IsTidy s → IsTidy t
  pub count : length t.order + left t ≤ length s.order + left s

-- the fragment of a library entry, if it exists and wasn't visited
abbrev pub unmet_of : List Bool → Option ℕ → Option ℕ
unmet_of marked bound = option_and_then (λ q. if slice_index_or marked q true then None else Some q) bound
