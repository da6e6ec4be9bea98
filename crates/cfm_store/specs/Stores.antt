-- Fragments by name: places that have a pair of a name and the bytes of a container, or are free since their pair was
-- removed. If several pairs have the same name, the first is used.
use Rattle.std.specs.Prelude.{ℕ, ◌+◌, Bool, false, true, List, [], ◌∷◌, Option, None, Some, option_map, slice_get, slice_index_or, if◌then◌else◌}
use Rattle.std.specs.Option.{option_and_then}
use Rattle.std.specs.Str.{bytes_eq}

-- a place with a pair. If it is free, the name and the bytes don't count
pub record Pair : Type 0 where
  pub name : List ℕ
  pub bytes : List ℕ
  pub free : Bool

-- a pair without name and bytes
abbrev pub no_pair : Pair
no_pair = record { name = []; bytes = []; free = false }

-- a place whose pair was removed
abbrev pub free_place : Pair
free_place = record { name = []; bytes = []; free = true }

-- a place has a pair with a name
abbrev pub is_named : Pair → List ℕ → Bool
is_named p name = if p.free then false else bytes_eq name p.name

-- the place of the first pair with a name, counted from a number on
abbrev pub place_from : ℕ → List Pair → List ℕ → Option ℕ
place_from at [] name = None
place_from at (p ∷ pairs) name = if is_named p name then Some at else place_from (at + 1) pairs name

-- the place of the first pair with a name
unfoldable pub place_of : List Pair → List ℕ → Option ℕ
place_of pairs name = place_from 0 pairs name

-- the pair of a place; if it is free, one without name and bytes
abbrev pub shown : Pair → Pair
shown p = if p.free then no_pair else p

-- the pair in a place; past the last one, or if the place is free, one without name and bytes
abbrev pub pair_of : List Pair → ℕ → Pair
pair_of pairs p = shown (slice_index_or pairs p no_pair)

-- the pair of a place; none if it is free
abbrev pub taken : Pair → Option Pair
taken p = if p.free then None else Some p

-- the name of the pair in a place; none past the last one, and if the place is free
abbrev pub name_at : List Pair → ℕ → Option (List ℕ)
name_at pairs p = option_map (λ pair. pair.name) (option_and_then taken (slice_get pairs p))
