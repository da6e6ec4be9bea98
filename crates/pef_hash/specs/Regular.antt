-- Tables whose slots lead to their keys (Mac OS Runtime Architectures, "PEF Structure", "Export Hash
-- Table"), as they are written for some names. A container may hold any other table.
use Rattle.std.specs.Prelude.{◌≡◌, ◌≢◌, ℕ, zero, suc, ◌+◌, ◌^◌, ◌<◌, ◌≤◌, ◌↔◌, List, [], length, None, Some, slice_index, slice_index_or}
use Rattle.std.specs.Option.{option_map_or}
use Rattle.pef_hash.specs.Build.{BuiltTable, built}
use Rattle.pef_hash.specs.Exports.{ExportTable, export_named, key_of, name_of, slot_count, slot_first, slot_word_of}
use Rattle.pef_hash.specs.Limits.{names_limit}
use Rattle.pef_hash.specs.Word.{hash_word, slot}

-- key i is there, and in slot s
pub record IsKeyOf (t : ExportTable) (s i : ℕ) : Type 0 where
  pub key : ℕ
  pub is : key_of t i ≡ Some key
  pub here : slot key t.power ≡ s

-- place i is one of as many places as a slot word counts, from its first index on
pub record IsCounted (word i : ℕ) : Type 0 where
  pub low : slot_first word ≤ i
  pub high : i < slot_first word + slot_count word

-- each key is the hash word of its name, keys are in order of slot, and each slot word counts exactly the keys of its
-- slot: all of them, no key of another slot, and no place without a key
pub record IsRegular (t : ExportTable) : Type 0 where
  pub keyed : (i : ℕ) → i < t.count → (name : List ℕ) × (name_of t i ≡ Some name) × (key_of t i ≡ Some (hash_word name))
  pub ordered : (i j k l : ℕ) → i < j → key_of t i ≡ Some k → key_of t j ≡ Some l → slot k t.power ≤ slot l t.power
  pub delimited : (s word i : ℕ) → slot_word_of t s ≡ Some word → IsCounted word i ↔ IsKeyOf t s i

-- how many bytes the names of the first n exports have together
unfoldable pub names_length : ExportTable → ℕ → ℕ
names_length t zero = 0
names_length t (suc n) = names_length t n + option_map_or length (name_of t n) 0

-- a table that is searched by its slots: it has exports, it is regular, and its names, which may overlap, are together no
-- longer than its strings (this project's own)
pub record IsSearchable (t : ExportTable) : Type 0 where
  pub some : 0 < t.count
  pub regular : IsRegular t
  pub within : names_length t t.count ≤ length t.strings

-- a table has the power, slots and keys of a built one, and its names in its order
pub record Spells (t : ExportTable) (b : BuiltTable) (names : List (List ℕ)) : Type 0 where
  pub power : t.power ≡ b.power
  pub count : t.count ≡ length names
  pub slots : (s : ℕ) → s < 2 ^ b.power → slot_word_of t s ≡ Some (slice_index b.slots s)
  pub keys : (i : ℕ) → i < length names → key_of t i ≡ Some (slice_index b.keys i)
  pub ordered : (i : ℕ) → i < length names → name_of t i ≡ Some (slice_index_or names (slice_index b.order i) [])

-- no name comes twice
abbrev pub AreDistinct : List (List ℕ) → Type 0
AreDistinct names = (i j : ℕ) → i < length names → j < length names → slice_index_or names i [] ≡ slice_index_or names j [] → i ≡ j

-- a table that is written for some names is regular
abbrev pub BuiltIsRegular : Type 0
BuiltIsRegular = (names : List (List ℕ)) (t : ExportTable) → length names < names_limit → Spells t (built names) names → IsRegular t

-- in the table of distinct names each has its own key, the one that the order gives it
abbrev pub BuiltHasOwn : Type 0
BuiltHasOwn = (names : List (List ℕ)) (t : ExportTable) (j : ℕ) → length names < names_limit → Spells t (built names) names → AreDistinct names → j < length names
    → (i : ℕ) × (export_named t (slice_index_or names j []) ≡ Some i) × (i < length names) × (slice_index (built names).order i ≡ j)

-- in a table that is written for some names any other name has no key
abbrev pub BuiltHasNoOther : Type 0
BuiltHasNoOther = (names : List (List ℕ)) (t : ExportTable) (other : List ℕ) → length names < names_limit → Spells t (built names) names
    → ((j : ℕ) → j < length names → slice_index_or names j [] ≢ other) → export_named t other ≡ None

-- a slot of a regular table that counts a key doesn't count past the last key
abbrev pub RegularEndsInside : Type 0
RegularEndsInside = (t : ExportTable) (s word : ℕ) → IsRegular t → slot_word_of t s ≡ Some word → 0 < slot_count word
    → slot_first word + slot_count word ≤ t.count
