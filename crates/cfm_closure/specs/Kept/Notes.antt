-- What is noted, and the places of its names.
use Rattle.std.specs.Prelude.{ℕ, List, [], map, false}
use Rattle.pef_names.specs.declared.name_key.NameKey.{NameKey}
use Rattle.cfm_store.specs.Places.{ArePlaces}
use Rattle.cfm_closure.specs.Missing.{Missing}
use Rattle.cfm_store.specs.Stores.{Pair}

-- the name of a missing library, as a pair
abbrev pub name_pair : Missing → Pair
name_pair m = record { name = m.name; bytes = []; free = false }

-- a table has the place of each name that is noted
abbrev pub AreNamed : List Missing → List (NameKey × ℕ) → Type 0
AreNamed ms entries = ArePlaces (map name_pair ms) entries
