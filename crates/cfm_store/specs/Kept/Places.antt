-- The table of names of a store, and how it changes.
use Rattle.std.specs.Prelude.{◌≡◌, ℕ, ◌≤◌, List, length, map, get_or, Option, None, option_map, false}
use Rattle.std.specs.Borrow.{Bor}
use Rattle.std.specs.Option.{option_and_then}
use Rattle.std.specs.Str.{bytes_eq}
use Rattle.pef_names.specs.declared.name_key.NameKey.{NameKey}
use Rattle.cfm_store.specs.Seen.{place_seen}
use Rattle.cfm_store.specs.Stores.{place_of}
use Rattle.cfm_store.specs.Limits.{most_pairs}
use Rattle.cfm_store.specs.Places.{ArePlaces, place_in, slice_in}

-- the name that the pair in a place has: the slice itself, with its place in memory
abbrev pub slice_at : List (Option (Bor (List ℕ) × Bor (List ℕ))) → ℕ → Option (Bor (List ℕ))
slice_at places p = option_map (λ (pair : Bor (List ℕ) × Bor (List ℕ)). pair.0) (get_or places p None)

-- .. and the first pair with a name
abbrev pub slice_of : List (Option (Bor (List ℕ) × Bor (List ℕ))) → List ℕ → Option (Bor (List ℕ))
slice_of places name = option_and_then (slice_at places) (place_of (map place_seen places) name)

-- at most this many pairs, the place of each name, and for each name the slice that its first pair has. So no slice of a pair
-- that was removed
pub record IsStore (places : List (Option (Bor (List ℕ) × Bor (List ℕ)))) (entries : List (NameKey × ℕ)) : Type 0 where
  pub places_are : ArePlaces (map place_seen places) entries
  pub slices_are : (name : List ℕ) → slice_in entries name ≡ slice_of places name
  pub few : length places ≤ most_pairs

-- a name gets this place or none, and the others keep theirs
pub record SetsPlace {V : Type 0} (old : List (NameKey × V)) (name : List ℕ) (place : Option V) (new : List (NameKey × V)) : Type 0 where
  pub own : place_in new name ≡ place
  pub others : (other : List ℕ) → bytes_eq name other ≡ false → place_in new other ≡ place_in old other

-- a name gets this slice or none, and the others keep theirs
pub record SetsSlice {V : Type 0} (old : List (NameKey × V)) (name : List ℕ) (slice : Option (Bor (List ℕ))) (new : List (NameKey × V)) : Type 0 where
  pub own_slice : slice_in new name ≡ slice
  pub other_slices : (other : List ℕ) → bytes_eq name other ≡ false → slice_in new other ≡ slice_in old other
