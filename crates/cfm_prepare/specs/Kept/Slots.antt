-- How the fragments that are present are kept: a slot for each place of the store, and the places of those that are
-- present in the order in which they were placed.
use Rattle.std.specs.Prelude.{◌≡◌, ◌<◌, ℕ, List, [], ◌∷◌, ◌++◌, Option, None, Some, map, slice_index_or}
use Rattle.std.specs.Option.{is_some}
use Rattle.cfm_memory.specs.declared.place.Place.{Place}
use Rattle.cfm_prepare.specs.Fragments.{Present}
use Rattle.cfm_prepare.specs.Lists.{IsOnce, has}
use Rattle.cfm_prepare.specs.declared.slots.Placed.{Placed}

-- the value of the slots: the fragments in the order in which they were placed, how many places of the store have a
-- slot, and how many more fragments there is room for
pub record Table : Type 0 where
  pub items : List Present
  pub room : ℕ
  pub left : ℕ

-- a fragment may be put at a place
abbrev pub HasRoom : Table → ℕ → Type 0
HasRoom t p = (p < t.room) × (0 < t.left)

-- the content of the slot of a place of the store
abbrev pub slot_at : List (Option Placed) → ℕ → Option Placed
slot_at slots p = slice_index_or slots p None

abbrev pub slot_places : Option Placed → List Place
slot_places None = []
slot_places (Some f) = f.places.items

-- the fragment of a place of the store
abbrev pub in_slot : List (Option Placed) → ℕ → Present
in_slot slots p = record { position = p; places = slot_places (slot_at slots p) }

-- the fragments in some places, in the order of these
abbrev pub in_slots : List (Option Placed) → List ℕ → List Present
in_slots slots order = map (in_slot slots) order

-- the places are those whose slots have a fragment, each once
pub record AreSlots (slots : List (Option Placed)) (order : List ℕ) : Type 0 where
  pub once : IsOnce order
  pub listed : (p : ℕ) → has order p ≡ is_some (slot_at slots p)

-- a place was removed from some
pub record IsRemoved (ps now : List ℕ) (p : ℕ) : Type 0 where
  pub front : List ℕ
  pub back : List ℕ
  pub was : ps ≡ front ++ p ∷ back
  pub is : now ≡ front ++ back
