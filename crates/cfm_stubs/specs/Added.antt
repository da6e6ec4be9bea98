-- A store with the stubs of what it lacks after its own pairs (docs/RULES.md, "Stubs").
use Rattle.std.specs.Prelude.{◌≡◌, ℕ, ◌+◌, ◌-◌, ◌&&◌, Bool, false, List, [], ◌∷◌, ◌++◌, length, map, nat_le, nat_lt, slice_get, if◌then◌else◌}
use Rattle.std.specs.List.{AllByRecursion}
use Rattle.std.specs.Option.{option_map_or}
use Rattle.std.specs.Str.{bytes_eq}
use Rattle.pef_format.specs.Exports.{Export}
use Rattle.cfm_store.specs.Stores.{Pair}
use Rattle.cfm_stubs.specs.Lacking.{lacking_in, loaders_in, wanted}
use Rattle.cfm_stubs.specs.NumberStubs.{IsReadStub, MadeStub, number_stubs}

-- a stub as a pair of a store
abbrev pub stub_pair : MadeStub → Pair
stub_pair s = record { name = s.name; bytes = s.bytes; free = false }

-- a store with stubs after its own pairs
abbrev pub with_stubs : List Pair → List MadeStub → List Pair
with_stubs pairs made = pairs ++ map stub_pair made

-- the pair in a place is one of the stubs
abbrev pub is_added : List Pair → List MadeStub → ℕ → Bool
is_added pairs made q = nat_le (length pairs) q && nat_lt q (length pairs + length made)

-- the number of the first export with a name; 0 if there is none
abbrev pub exported_number : List Export → List ℕ → ℕ
exported_number [] name = 0
exported_number (e ∷ exports) name = if bytes_eq name e.name then e.fields.value else exported_number exports name

-- the number that the exports of the stub in a place have for a name
abbrev pub added_number : List Pair → List MadeStub → ℕ → List ℕ → ℕ
added_number pairs made q name = option_map_or (λ s. exported_number s.exports name) (slice_get made (q - length pairs)) 0

-- these are what `stubs` returns for a store: stubs of all that it lacks, with numbers from a first one on, each of which is read with
-- its versions and its exports
pub record AreNumberStubs (pairs : List Pair) (first step : ℕ) (weak : Bool) (made : List MadeStub) : Type 0 where
  pub are : made ≡ number_stubs (loaders_in pairs) first step (wanted weak (lacking_in pairs))
  pub each : AllByRecursion (IsReadStub (loaders_in pairs)) made
