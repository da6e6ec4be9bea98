-- The results of the searches through the instances, each over a list.
use Rattle.std.specs.Prelude.{◌≡◌, ℕ, ◌+◌, ◌-◌, ◌%◌, ◌^◌, ◌<◌, ◌≤◌, ◌⊎◌, List, [], ◌∷◌, Option, None, Some, if◌then◌else◌, length, min, take, drop, nat_le, slice_index_or}
use Rattle.std.specs.List.{All}
use Rattle.cfm_memory.specs.Instances.{Instance}
use Rattle.cfm_memory.specs.Limits.{first_address}
use Rattle.cfm_memory.specs.Placement.{AreClear, AreInTurn, IsClear, IsFree, IsLaidOut}
use Rattle.cfm_memory.specs.Reservation.{same_range}
use Rattle.cfm_memory.specs.declared.hints.Hint.{Hint}
use Rattle.cfm_memory.specs.declared.place.Reserved.{Reserved}

-- below a hint's address no multiple of its step has room for its bytes
abbrev pub IsBarren : ℕ → List Instance → List Reserved → Hint → Type 0
IsBarren granule xs rs hint = (other : ℕ) → first_address ≤ other → other % hint.step ≡ 0 → IsFree granule other (other + hint.taken) xs → IsClear other (other + hint.taken) rs → hint.from ≤ other

-- hints that hold, each with an address that isn't past the last one
abbrev pub AreHints : ℕ → List Instance → List Reserved → List Hint → Type 0
AreHints granule xs rs hints = All (λ hint. IsBarren granule xs rs hint × (hint.from ≤ 2 ^ 32)) hints

-- a hint that serves no search
abbrev pub no_hint : Hint
no_hint = record { from = first_address; taken = 2 ^ 33; step = 2 ^ 32 }

-- a hint tells where a search for some bytes at multiples of a step may begin
abbrev pub Serves : Hint → ℕ → ℕ → Type 0
Serves hint bytes step = (hint.taken ≤ bytes) × (step % hint.step ≡ 0)

-- the address of a hint that serves a search, or the first address
abbrev pub IsStart : List Hint → ℕ → ℕ → ℕ → Type 0
IsStart hints bytes step from = (first_address ≤ from) × ((other : ℕ) → first_address ≤ other → All (λ hint. Serves hint bytes step → hint.from ≤ other) hints → from ≤ other)

-- a hint tells no less than another one: it serves each search that the other serves, and lets it begin no earlier
abbrev pub TellsNoLess : Hint → Hint → Type 0
TellsNoLess hint other = (other.from ≤ hint.from) × Serves hint other.taken other.step

-- the row that a hint replaces: one that tells no more, or else the next one of the 64 in turn
abbrev pub IsSlotFor : Hint → List Hint → ℕ → ℕ → ℕ → Type 0
IsSlotFor hint rows next next' slot = (TellsNoLess hint (slice_index_or rows slot no_hint) × (next' ≡ next)) ⊎ ((slot ≡ next % 64) × (next' ≡ slot + 1))

-- what is left of a hint after the memory from an address on is given back
abbrev pub lowered : ℕ → Hint → Hint
lowered address hint = record hint { from = min hint.from (address - hint.taken) }

-- all hints are lowered
abbrev pub AreLowered : ℕ → List Hint → List Hint → Type 0
AreLowered address hints lower = (k : ℕ) (d : Hint) → k < length hints → slice_index_or lower k d ≡ lowered address (slice_index_or hints k d)

-- the first address from another on across which no instance lies
pub record IsPast (granule from : ℕ) (xs : List Instance) (address : ℕ) : Type 0 where
  pub low : from ≤ address
  pub between : IsFree granule address address xs
  pub full : (other : ℕ) → from ≤ other → IsFree granule other (other + 1) xs → address ≤ other

-- the invariant of a memory: its instances are laid out, so are its reserved ranges, its hints hold, and its limit has 32
-- bits
pub record IsKept (granule limit : ℕ) (xs : List Instance) (rs : List Reserved) (hints : List Hint) : Type 0 where
  pub laid_out : IsLaidOut granule first_address limit xs
  pub in_turn : AreInTurn 0 rs
  pub clear : AreClear granule xs rs
  pub are_hints : AreHints granule xs rs hints
  pub small : limit < 2 ^ 32

-- the first multiple of a step, from an address on, at which some bytes overlap no instance
pub record IsFirstFree (granule bytes step from : ℕ) (xs : List Instance) (address : ℕ) : Type 0 where
  pub low : from ≤ address
  pub aligned : address % step ≡ 0
  pub free : IsFree granule address (address + bytes) xs
  pub first : (other : ℕ) → from ≤ other → other % step ≡ 0 → IsFree granule other (other + bytes) xs → address ≤ other

-- the first multiple of a step, from an address on, at which some bytes overlap no instance and no reserved
-- range
pub record IsFirstVacant (granule bytes step from : ℕ) (xs : List Instance) (rs : List Reserved) (address : ℕ) : Type 0 where
  pub low : from ≤ address
  pub aligned : address % step ≡ 0
  pub free : IsFree granule address (address + bytes) xs
  pub clear : IsClear address (address + bytes) rs
  pub first : (other : ℕ) → from ≤ other → other % step ≡ 0 → IsFree granule other (other + bytes) xs → IsClear other (other + bytes) rs → address ≤ other

-- all ranges end up to an address
abbrev pub AllPassed : ℕ → List Reserved → Type 0
AllPassed address [] = Unit {0}
AllPassed address (r ∷ rs) = (r.to ≤ address) × AllPassed address rs

-- the number of a range among some, counted from a number on
abbrev pub range_number : List Reserved → Reserved → ℕ → Option ℕ
range_number [] y at = None
range_number (r ∷ rs) y at = if same_range r y then Some at else range_number rs y (at + 1)

-- the len bytes from a place on, if they are there
abbrev pub part_of : List ℕ → ℕ → ℕ → Option (List ℕ)
part_of bytes from len = if nat_le (from + len) (length bytes) then Some (take len (drop from bytes)) else None
