-- How open connections are kept: in slots, in the order of their numbers. A closed one may have a slot for a while.
use Rattle.std.specs.Prelude.{◌≡◌, ℕ, ◌+◌, ◌≤◌, ◌<◌, true, List, [], ◌∷◌, Option, None, Some, if◌then◌else◌, length, slice_index_or}
use Rattle.cfm_closure.specs.Closures.{Closed}
use Rattle.cfm_prepare.specs.Contexts.{Open}
use Rattle.cfm_prepare.specs.Lists.{has}
use Rattle.cfm_prepare.specs.declared.connections.Slot.{Slot}

-- the value of the slots: the open connections, how many numbers were given, and for how many more there is
-- room
pub record Numbered : Type 0 where
  pub items : List Open
  pub given : ℕ
  pub left : ℕ

-- the connection of a slot, if it is open, and those after it
abbrev pub open_and : Option Open → List Open → List Open
open_and None others = others
open_and (Some o) others = o ∷ others

-- the connections of slots
abbrev pub open_in : List Slot → List Open
open_in [] = []
open_in (s ∷ slots) = open_and s.connected (open_in slots)

-- the connection of a slot, if its closure has a fragment
abbrev pub having_in : Option Open → ℕ → Option Open
having_in None p = None
having_in (Some o) p = if has o.closed.order p then Some o else None

-- a connection has the number of its slot
abbrev pub HasNumber : Option Open → ℕ → Type 0
HasNumber None number = Unit {0}
HasNumber (Some o) number = o.number ≡ number

-- the numbers rise, from one on and up to the next that is given
abbrev pub AreNumbered : ℕ → ℕ → List Slot → Type 0
AreNumbered from given [] = from ≤ given
AreNumbered from given (s ∷ slots) = (from ≤ s.number) × HasNumber s.connected s.number × AreNumbered (s.number + 1) given slots

-- slot k; past the last one, one without a connection
abbrev pub slot_of : List Slot → ℕ → Slot
slot_of slots k = slice_index_or slots k (record { number = 0; connected = None })

-- slot k is that of a number
abbrev pub IsSlotOf : List Slot → ℕ → ℕ → Type 0
IsSlotOf slots number k = (k < length slots) × ((slot_of slots k).number ≡ number)

-- the fragments of a closure's initialization order are its own
abbrev pub AreOfClosure : Closed → Type 0
AreOfClosure c = (p : ℕ) → has c.init_order p ≡ true → has c.order p ≡ true
