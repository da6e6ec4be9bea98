-- The facts that the search by slots needs.
use Rattle.std.specs.Prelude.{◌≡◌, ℕ, ◌+◌, ◌^◌, ◌<◌, ◌&&◌, Bool, false, IsTrue, List, Option, None, Some, length, nat_le, nat_lt}
use Rattle.pef_hash.specs.Exports.{ExportTable, key_of, name_of, slot_count, slot_first, slot_word_of}
use Rattle.pef_hash.specs.Regular.{IsCounted}
use Rattle.pef_hash.specs.Word.{hash_word, slot}

-- a slot word is there and counts export i
abbrev pub leads_to : Option ℕ → ℕ → Bool
leads_to None i = false
leads_to (Some word) i = nat_le (slot_first word) i && nat_lt i (slot_first word + slot_count word)

-- each name can be hashed, its hash word is the key of its export, and the slot of that key counts the
-- export
abbrev pub LeadsToAll : ExportTable → Type 0
LeadsToAll t = (i : ℕ) (name : List ℕ) → name_of t i ≡ Some name
    → (length name < 2 ^ 16) × IsTrue (leads_to (slot_word_of t (slot (hash_word name) t.power)) i) × (key_of t i ≡ Some (hash_word name))

-- the key of export i is the hash word of its name, and its slot counts it
pub record IsHashed (t : ExportTable) (i : ℕ) : Type 0 where
  pub name : List ℕ
  pub named : name_of t i ≡ Some name
  pub short : length name < 2 ^ 16
  pub key : key_of t i ≡ Some (hash_word name)
  pub leads : IsTrue (leads_to (slot_word_of t (slot (hash_word name) t.power)) i)

-- the places that the slots before slot s count lie before an end, and each slot counts after those
-- before it
pub record AreInTurnTo (t : ExportTable) (s end : ℕ) : Type 0 where
  pub before : (r v i : ℕ) → r < s → slot_word_of t r ≡ Some v → IsCounted v i → i < end
  pub turn : (q r v w i j : ℕ) → q < r → r < s → slot_word_of t q ≡ Some v → slot_word_of t r ≡ Some w → IsCounted v i → IsCounted w j → i < j

-- slots count only exports, and each counts after those before it
abbrev pub AreSlotsInTurn : ExportTable → Type 0
AreSlotsInTurn t = AreInTurnTo t (2 ^ t.power) t.count

-- a slot before slot s counts place i
pub record IsCountedBefore (t : ExportTable) (s i : ℕ) : Type 0 where
  pub r : ℕ
  pub word : ℕ
  pub before : r < s
  pub is : slot_word_of t r ≡ Some word
  pub counted : IsCounted word i

-- the place before an end, if there is one, is counted by a slot before slot s
abbrev pub IsEndOf : ExportTable → ℕ → ℕ → Type 0
IsEndOf t s end = (i : ℕ) → end ≡ i + 1 → IsCountedBefore t s i
