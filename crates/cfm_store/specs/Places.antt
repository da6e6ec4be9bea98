-- The place of the first pair of each name, as a table of names has it.
use Rattle.std.specs.Prelude.{◌≡◌, ℕ, List, [], ◌∷◌, ◌++◌, length, Option, None, Some, option_map, false, if◌then◌else◌}
use Rattle.std.specs.Borrow.{Bor}
use Rattle.std.specs.Map.{lookup, lookup_key}
use Rattle.std.specs.Option.{option_or}
use Rattle.std.specs.Str.{bytes_eq}
use Rattle.pef_names.specs.declared.name_key.NameKey.{NameKey}
use Rattle.cfm_store.specs.Stores.{Pair, place_of}

-- the place, or what else a table has for a name
abbrev pub place_in : {V : Type 0} → List (NameKey × V) → List ℕ → Option V
place_in entries name = lookup (λ (k : NameKey). bytes_eq name k.bytes.now) entries

-- the slice that a table keeps for a name: the key itself, with its place in memory
abbrev pub slice_in : {V : Type 0} → List (NameKey × V) → List ℕ → Option (Bor (List ℕ))
slice_in entries name = option_map (λ (k : NameKey). k.bytes) (lookup_key (λ (k : NameKey). bytes_eq name k.bytes.now) entries)

-- a table of names has for each name the place of its first pair
abbrev pub ArePlaces : List Pair → List (NameKey × ℕ) → Type 0
ArePlaces pairs entries = (name : List ℕ) → place_in entries name ≡ place_of pairs name

-- a table with the place of each name still has it after a pair with this name is added after all
-- pairs
abbrev pub NotesPlace : List (NameKey × ℕ) → List ℕ → ℕ → List (NameKey × ℕ) → Type 0
NotesPlace old name place new = (pairs : List Pair) (x : Pair) → ArePlaces pairs old → x.name ≡ name → x.free ≡ false → place ≡ length pairs → ArePlaces (pairs ++ x ∷ []) new

-- .. and it keeps this slice of the name, unless it had one of it
abbrev pub NotesSlice : {V : Type 0} → List (NameKey × V) → Bor (List ℕ) → List (NameKey × V) → Type 0
NotesSlice old name new = (other : List ℕ) → slice_in new other ≡ option_or (slice_in old other) (if bytes_eq other name.now then Some name else None)
