-- Ranges of addresses that are out of use, for a stack, a screen or whatever else a machine has. The format says nothing
-- of them, so this is this project's own rule.
use Rattle.std.specs.Prelude.{◌≡◌, ◌⊎◌, ℕ, ◌+◌, ◌-◌, ◌%◌, ◌^◌, ◌<◌, ◌≤◌, ◌==◌, ◌&&◌, Bool, true, false, List, [], ◌∷◌, if◌then◌else◌, nat_lt}
use Rattle.std.specs.Int.{next_multiple_of}
use Rattle.cfm_memory.specs.Instances.{Layout}
use Rattle.cfm_memory.specs.Limits.{grain}
use Rattle.cfm_memory.specs.Placement.{IsClear, IsFree}
use Rattle.cfm_memory.specs.declared.place.Reserved.{Reserved}
use Rattle.cfm_memory.specs.declared.place.MemoryFault.{MemoryFault}
use Rattle.cfm_memory.specs.declared.place.MemoryFault.TheVariants.{NoRoom, OutOfMemory}

-- the range that some bytes from an address on take: from the multiple of the grain at or below the address up to the one
-- at or above their end
unfoldable pub reserved_range : ℕ → ℕ → Reserved
reserved_range address size = record { from = address - address % grain; to = next_multiple_of (address + size) grain }

-- the ranges with one more, before those of higher addresses
abbrev pub with_range : List Reserved → Reserved → List Reserved
with_range [] y = y ∷ []
with_range (r ∷ rs) y = if nat_lt r.from y.from then r ∷ with_range rs y else y ∷ r ∷ rs

-- a range that can be reserved: it has addresses of 32 bits, and meets no instance and no other range
pub record IsVacant (m : Layout) (range : Reserved) : Type 0 where
  pub inside : range.to ≤ 2 ^ 32
  pub free : IsFree m.granule range.from range.to m.instances
  pub clear : IsClear range.from range.to m.reserved

-- a memory with one more reserved range
abbrev pub with_reserved : Layout → Reserved → Layout
with_reserved m range = record m { reserved = with_range m.reserved range }

-- some bytes from an address on are out of use in the memory afterwards. No bytes take nothing
abbrev pub Reserves : Layout → ℕ → ℕ → Layout → Type 0
Reserves m address size after =
    ((size ≡ 0) × (after ≡ m)) ⊎ ((0 < size) × IsVacant m (reserved_range address size) × (after ≡ with_reserved m (reserved_range address size)))

-- why some bytes may not be reserved: an address is taken or past the last one; or else an allocation fails
abbrev pub MayNotReserve : Layout → ℕ → ℕ → MemoryFault → Type 0
MayNotReserve m address size NoRoom = (0 < size) × (IsVacant m (reserved_range address size) → ⊥)
MayNotReserve m address size OutOfMemory = (0 < size) × IsVacant m (reserved_range address size)

-- whether two ranges are the same
abbrev pub same_range : Reserved → Reserved → Bool
same_range r y = r.from == y.from && r.to == y.to

-- whether a range is one of some
abbrev pub has_range : List Reserved → Reserved → Bool
has_range [] y = false
has_range (r ∷ rs) y = if same_range r y then true else has_range rs y

-- the ranges without one of them
abbrev pub without_range : List Reserved → Reserved → List Reserved
without_range [] y = []
without_range (r ∷ rs) y = if same_range r y then rs else r ∷ without_range rs y

-- a memory without a reserved range
abbrev pub without_reserved : Layout → Reserved → Layout
without_reserved m range = record m { reserved = without_range m.reserved range }

-- some bytes from an address on were out of use, and aren't in the memory afterwards. No bytes free nothing
abbrev pub Unreserves : Layout → ℕ → ℕ → Layout → Type 0
Unreserves m address size after =
    ((size ≡ 0) × (after ≡ m)) ⊎ ((0 < size) × (has_range m.reserved (reserved_range address size) ≡ true) × (after ≡ without_reserved m (reserved_range address size)))

-- some bytes from an address on aren't a range that was reserved
abbrev pub IsNoRange : Layout → ℕ → ℕ → Type 0
IsNoRange m address size = (0 < size) × (has_range m.reserved (reserved_range address size) ≡ false)
