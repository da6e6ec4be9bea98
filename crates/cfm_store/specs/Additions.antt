-- A store with one more pair, and without one: which place a new pair gets (docs/RULES.md, "Binding").
use Rattle.std.specs.Prelude.{◌+◌, ◌++◌, ◌||◌, ℕ, Bool, List, [], ◌∷◌, Option, None, Some, is_some, length, nat_lt, slice_set, if◌then◌else◌}
use Rattle.cfm_store.specs.Limits.{most_pairs}
use Rattle.cfm_store.specs.Stores.{Pair, free_place, place_of}

-- the store with one more pair, at its end
abbrev pub with_pair : List Pair → Pair → List Pair
with_pair pairs n = pairs ++ n ∷ []

-- the first free place, counted from a number on
abbrev pub free_from : ℕ → List Pair → Option ℕ
free_from at [] = None
free_from at (p ∷ pairs) = if p.free then Some at else free_from (at + 1) pairs

-- the free place for a new pair with a name: the first one. If a pair has the name, none, since a new one comes after it
unfoldable pub free_for : List Pair → List ℕ → Option ℕ
free_for pairs name = if is_some (place_of pairs name) then None else free_from 0 pairs

abbrev pub placed_at : List Pair → Pair → Option ℕ → List Pair
placed_at pairs n None = with_pair pairs n
placed_at pairs n (Some p) = slice_set pairs p n

-- the store with a new pair: in the free place for it, or else at the end
unfoldable pub with_put : List Pair → Pair → List Pair
with_put pairs n = placed_at pairs n (free_for pairs n.name)

-- there is a place for a new pair with a name
abbrev pub has_room : List Pair → List ℕ → Bool
has_room pairs name = is_some (free_for pairs name) || nat_lt (length pairs) most_pairs

-- the store without the pair in a place, which is free then
abbrev pub without_pair : List Pair → ℕ → List Pair
without_pair pairs p = slice_set pairs p free_place
