-- What is kept of a store after a fragment is removed. Marked are the removed fragment, and those whose targets its removal may change.
use Rattle.std.specs.Prelude.{◌≡◌, ◌⊎◌, ℕ, ◌<◌, ◌≤◌, Bool, true, false, List, [], length, slice_index_or, Option, None, Some, IsSome, if◌then◌else◌}
use Rattle.std.specs.Option.{option_and_then}
use Rattle.pef_loader.specs.Library.{Library}
use Rattle.pef_loader.specs.Loader.{Loaded, library_of}
use Rattle.cfm_store.specs.Stores.{Pair, place_of}
use Rattle.cfm_closure.specs.Fragments.{loader_at}
use Rattle.cfm_closure.specs.Kept.Targets.{Row}

-- the fragment in a place is marked; past the last mark it is
abbrev pub is_marked : List Bool → ℕ → Bool
is_marked marks p = slice_index_or marks p true

-- the first fragment with a name isn't marked, if there is one
abbrev pub IsUnmarked : List Pair → List Bool → List ℕ → Type 0
IsUnmarked pairs marks name = (q : ℕ) → place_of pairs name ≡ Some q → is_marked marks q ≡ false

-- no library entry of a loader section has the name of a marked fragment
abbrev pub NamesNone : List Pair → List Bool → Option Loaded → Type 0
NamesNone pairs marks o = (l : ℕ) (library : Library) → option_and_then (λ x. library_of x l) o ≡ Some library → IsUnmarked pairs marks library.name

-- if a fragment's targets are kept, and it isn't marked, it needs no marked fragment
abbrev pub IsApart : List Pair → List (Option Row) → List Bool → ℕ → Type 0
IsApart pairs rows marks p = IsSome (slice_index_or rows p None) → is_marked marks p ≡ false → NamesNone pairs marks (loader_at pairs p)

abbrev pub AreApart : List Pair → List (Option Row) → List Bool → Type 0
AreApart pairs rows marks = (p : ℕ) → IsApart pairs rows marks p

-- fragments that were marked still are
pub record StayMarked (old new : List Bool) : Type 0 where
  pub size : length new ≡ length old
  pub still : (p : ℕ) → is_marked old p ≡ true → is_marked new p ≡ true

-- the value in a place of a table, unless the place is left out
abbrev pub left_at : {T : Type 0} → (ℕ → Bool) → List (Option T) → ℕ → Option T
left_at out table p = if out p then None else slice_index_or table p None

-- a table has the first n of some values
pub record AreFirst {T : Type 0} (value : ℕ → Option T) (n : ℕ) (table : List (Option T)) : Type 0 where
  pub are : (p : ℕ) → p < n → slice_index_or table p None ≡ value p
  pub rest : (p : ℕ) → n ≤ p → slice_index_or table p None ≡ None

-- a table without the values of some places
pub record IsWithout {T : Type 0} (out : ℕ → Bool) (old new : List (Option T)) : Type 0 where
  pub size : length new ≡ length old
  pub is : (p : ℕ) → slice_index_or new p None ≡ left_at out old p

-- a table has the kept targets of the fragments that aren't marked
pub record AreUnmarked (pairs : List Pair) (place : ℕ) (rows left : List (Option Row)) : Type 0 where
  pub marks : List Bool
  pub here : is_marked marks place ≡ true
  pub apart : AreApart pairs rows marks
  pub without : IsWithout (is_marked marks) rows left

-- the kept targets that are left if the fragment in a place is removed, or none
abbrev pub IsLeft : List Pair → ℕ → List (Option Row) → List (Option Row) → Type 0
IsLeft pairs place rows left = (left ≡ []) ⊎ AreUnmarked pairs place rows left
