-- The libraries that fragments of a store name, and that no fragment of the store serves by name (docs/RULES.md, "Stubs").
use Rattle.std.specs.Prelude.{ℕ, zero, suc, ◌+◌, ◌&&◌, ◌||◌, not, Bool, List, [], ◌∷◌, ◌++◌, Option, None, Some, fold, is_some, length, if◌then◌else◌}
use Rattle.std.specs.List.{flat_map}
use Rattle.std.specs.Str.{bytes_eq}
use Rattle.pef_format.specs.Symbols.{options_of}
use Rattle.pef_loader.specs.Library.{Library}
use Rattle.pef_loader.specs.Loader.{Loaded, library_of}
use Rattle.cfm_store.specs.Stores.{Pair, place_of}
use Rattle.cfm_closure.specs.Fragments.{loader_at}

-- a value, if it is there
abbrev pub listed : {A : Type 0} → Option A → List A
listed None = []
listed (Some x) = x ∷ []

-- the loader sections of those of n fragments that can be read, from the one in a place on
abbrev pub loaders_from : List Pair → ℕ → ℕ → List Loaded
loaders_from pairs p zero = []
loaders_from pairs p (suc n) = listed (loader_at pairs p) ++ loaders_from pairs (p + 1) n

-- the loader sections of the fragments of a store that can be read, in their order
unfoldable pub loaders_in : List Pair → List Loaded
loaders_in pairs = loaders_from pairs 0 (length pairs)

-- n entries of a loader section from entry k on
abbrev pub entries_on : Loaded → ℕ → ℕ → List Library
entries_on l k zero = []
entries_on l k (suc n) = listed (library_of l k) ++ entries_on l (k + 1) n

-- all entries of a loader section
abbrev pub all_entries : Loaded → List Library
all_entries l = entries_on l 0 l.header.library_count

-- a lacking library: its name, and whether each entry for it is weak
pub record LackingLibrary : Type 0 where
  pub name : List ℕ
  pub is_weak : Bool

abbrev pub is_weak_entry : Library → Bool
is_weak_entry l = (options_of l.fields.options).weak

-- the lacking libraries with one more entry: each name once, in its first place
abbrev pub with_lacking : List LackingLibrary → Library → List LackingLibrary
with_lacking [] l = (record { name = l.name; is_weak = is_weak_entry l }) ∷ []
with_lacking (x ∷ found) l = if bytes_eq l.name x.name then (record { name = x.name; is_weak = x.is_weak && is_weak_entry l }) ∷ found else x ∷ with_lacking found l

-- .. if no fragment of the store has its name
abbrev pub with_entry : List Pair → List LackingLibrary → Library → List LackingLibrary
with_entry pairs found l = if is_some (place_of pairs l.name) then found else with_lacking found l

-- the libraries that some loader sections name and a store lacks
abbrev pub lacking_of : List Pair → List Loaded → List LackingLibrary
lacking_of pairs loaders = fold (with_entry pairs) [] (flat_map all_entries loaders)

-- the libraries that a store lacks
unfoldable pub lacking_in : List Pair → List LackingLibrary
lacking_in pairs = lacking_of pairs (loaders_in pairs)

-- the names of the libraries that get stubs: of those whose entries are all weak only if they are wanted
abbrev pub wanted : Bool → List LackingLibrary → List (List ℕ)
wanted weak [] = []
wanted weak (l ∷ found) = if weak || not l.is_weak then l.name ∷ wanted weak found else wanted weak found
