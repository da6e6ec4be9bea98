-- The table that is written for some names (Mac OS Runtime Architectures, "PEF Structure", "Export Hash
-- Table"). Which power it has, and the order of the keys within a slot, are this project's own.
use Rattle.std.specs.Prelude.{ℕ, zero, suc, ◌+◌, ◌^◌, ◌==◌, List, [], ◌∷◌, ◌++◌, length, map, take, drop, slice_index, if◌then◌else◌}
use Rattle.pef_hash.specs.Exports.{slot_word}
use Rattle.pef_hash.specs.Word.{hash_word, power_of, slot}

-- 2^power slot words, a key for each name, and for each key the name that it is of
pub record BuiltTable : Type 0 where
  pub power : ℕ
  pub slots : List ℕ
  pub keys : List ℕ
  pub order : List ℕ

-- the names of these lengths, one after another
abbrev pub names_in : List ℕ → List ℕ → List (List ℕ)
names_in bytes [] = []
names_in bytes (n ∷ lengths) = take n bytes ∷ names_in (drop n bytes) lengths

-- the places of the words in slot s, in their order, if the first word is at place `from`
abbrev pub in_slot : ℕ → ℕ → ℕ → List ℕ → List ℕ
in_slot power s from [] = []
in_slot power s from (w ∷ words) =
    if slot w power == s then from ∷ in_slot power s (from + 1) words else in_slot power s (from + 1) words

-- the places of the words in the n slots from slot s on, slot by slot
abbrev pub in_slots : ℕ → List ℕ → ℕ → ℕ → List ℕ
in_slots power words s zero = []
in_slots power words s (suc n) = in_slot power s 0 words ++ in_slots power words (s + 1) n

-- the slot words of the n slots from slot s on, if the keys of slot s begin at key `first`
abbrev pub slot_words : ℕ → List ℕ → ℕ → ℕ → ℕ → List ℕ
slot_words power words s first zero = []
slot_words power words s first (suc n) =
    slot_word (length (in_slot power s 0 words)) first ∷ slot_words power words (s + 1) (first + length (in_slot power s 0 words)) n

-- how many words are in slot s
abbrev pub count_in : ℕ → List ℕ → ℕ → ℕ
count_in power words s = length (in_slot power s 0 words)

-- how many words are in the n slots from slot s on
abbrev pub count_before : ℕ → List ℕ → ℕ → ℕ → ℕ
count_before power words s n = length (in_slots power words s n)

-- the words at some places
unfoldable pub keys_at : List ℕ → List ℕ → List ℕ
keys_at words order = map (λ i. slice_index words i) order

-- the table of some hash words
abbrev pub of_words : ℕ → List ℕ → BuiltTable
of_words power words = record {
  power = power;
  slots = slot_words power words 0 0 (2 ^ power);
  keys = keys_at words (in_slots power words 0 (2 ^ power));
  order = in_slots power words 0 (2 ^ power);
}

-- the table of some names
unfoldable pub built : List (List ℕ) → BuiltTable
built names = of_words (power_of (length names)) (map hash_word names)
