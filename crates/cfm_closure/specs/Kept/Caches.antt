-- What is kept of a store from one closure to the next.
use Rattle.std.specs.Prelude.{◌≡◌, ◌≢◌, ◌⊎◌, ℕ, ◌<◌, ◌≤◌, List, length, slice_index_or, Option, None, Some, Ok, IsSome, Contains}
use Rattle.std.specs.Option.{option_and_then}
use Rattle.pef_loader.specs.Library.{Library}
use Rattle.pef_loader.specs.Loader.{library_of}
use Rattle.cfm_store.specs.Additions.{free_for}
use Rattle.cfm_store.specs.Stores.{Pair}
use Rattle.cfm_closure.specs.declared.cache.Cache.{Cache}
use Rattle.cfm_closure.specs.declared.fragment.FragmentView.{FragmentView}
use Rattle.cfm_closure.specs.Closures.{Closed, closed_of}
use Rattle.cfm_closure.specs.Fragments.{import_count, loader_at}
use Rattle.cfm_closure.specs.Kept.Targets.{AllKnown, AreRight, Row}
use Rattle.cfm_closure.specs.Kept.Views.{AreRead}
use Rattle.cfm_closure.specs.Orders.{IsComplete}

-- the targets of all imports of a fragment
pub record IsKeptRow (pairs : List Pair) (p : ℕ) (row : Row) : Type 0 where
  pub count : length row ≡ import_count pairs p
  pub known : AllKnown row
  pub right : AreRight pairs p row

-- each row of a table has the targets of all imports of its fragment
abbrev pub AreKeptRows : List Pair → List (Option Row) → Type 0
AreKeptRows pairs rows = (p : ℕ) (row : Row) → slice_index_or rows p None ≡ Some row → IsKeptRow pairs p row

-- a fragment is one of a complete order whose fragments are all kept
pub record IsOfKept (pairs : List Pair) (rows : List (Option Row)) (p : ℕ) : Type 0 where
  pub order : List ℕ
  pub complete : IsComplete pairs order
  pub member : Contains order p
  pub all : (q : ℕ) → Contains order q → IsSome (slice_index_or rows q None)

-- each fragment that is kept is one of a complete order whose fragments are all kept
abbrev pub AreOfKept : List Pair → List (Option Row) → Type 0
AreOfKept pairs rows = (p : ℕ) → IsSome (slice_index_or rows p None) → IsOfKept pairs rows p

-- the order of a closure
pub record IsOrderOfClosure (pairs : List Pair) (order : List ℕ) : Type 0 where
  pub root : ℕ
  pub inside : root < length pairs
  pub closure : Closed
  pub is : closed_of pairs root ≡ Ok closure
  pub same : closure.order ≡ order

-- the rows of the first n fragments of an order come to those that were kept
pub record KeepsFirst (pairs : List Pair) (order : List ℕ) (n : ℕ) (old new : List (Option Row)) : Type 0 where
  pub size : length new ≡ length pairs
  pub right : AreKeptRows pairs new
  pub still : (q : ℕ) → IsSome (slice_index_or old q None) → IsSome (slice_index_or new q None)
  pub all : (k : ℕ) → k < n → IsSome (slice_index_or new (slice_index_or order k 0) None)
  pub only : (q : ℕ) → IsSome (slice_index_or new q None) → IsSome (slice_index_or old q None) ⊎ Contains order q

-- no fragment that is kept has a library entry with a name
abbrev pub NoneNames : List Pair → List (Option Row) → List ℕ → Type 0
NoneNames pairs rows name = (p : ℕ) → IsSome (slice_index_or rows p None) → (l : ℕ) (library : Library) → option_and_then (λ x. library_of x l) (loader_at pairs p) ≡ Some library → library.name ≢ name

-- fragments of the store, as they were read, and targets of imports
pub record AreCached (pairs : List Pair) (views : List (Option FragmentView)) (rows : List (Option Row)) : Type 0 where
  pub few : length views ≤ length pairs
  pub read : AreRead pairs views
  pub few_rows : length rows ≤ length pairs
  pub right : AreKeptRows pairs rows
  pub closures : AreOfKept pairs rows

abbrev pub IsCache : List Pair → Cache → Type 0
IsCache pairs c = AreCached pairs c.views c.rows

-- where a new pair with a name may go: to the end, or into the place for it
abbrev pub MayTake : List Pair → List ℕ → Option ℕ → Type 0
MayTake pairs name o = (o ≡ None) ⊎ (o ≡ free_for pairs name)
