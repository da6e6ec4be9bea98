-- Where an instance may lie: at the lowest free address that has its alignment, or at one that is given. The format says how a
-- section's memory is aligned (Mac OS Runtime Architectures, "PEF Structure", section headers: alignment,
-- an exponent of two), but not where it lies. So the rest is this project's own rule of placement.
use Rattle.std.specs.Prelude.{◌≡◌, ℕ, ◌+◌, ◌%◌, ◌^◌, ◌≤◌, ◌<◌, ◌⊎◌, max, List, [], ◌∷◌, length, replicate}
use Rattle.std.specs.Int.{next_multiple_of}
use Rattle.cfm_memory.specs.Instances.{Instance, Layout, with_instance, with_instances}
use Rattle.cfm_memory.specs.declared.place.Place.{Place}
use Rattle.cfm_memory.specs.declared.place.Reserved.{Reserved}
use Rattle.cfm_memory.specs.declared.place.MemoryFault.{MemoryFault}
use Rattle.cfm_memory.specs.declared.place.MemoryFault.TheVariants.{NoRoom, OutOfMemory}
use Rattle.cfm_memory.specs.Limits.{first_address}
use Rattle.pef_words.specs.Bytes.{filled}

-- the bytes that an instance of some size takes: at least one, rounded up to a multiple of the granule
unfoldable pub taken : ℕ → ℕ → ℕ
taken granule size = next_multiple_of (max size 1) granule

-- the number of which the address of an instance is a multiple, from the exponent of its alignment
unfoldable pub step_of : ℕ → ℕ → ℕ
step_of granule alignment = max granule (2 ^ alignment)

-- the address after the last byte that an instance takes
abbrev pub end_of : ℕ → Instance → ℕ
end_of granule x = x.address + taken granule (length x.bytes)

-- the bytes from an address to an end overlap no instance
abbrev pub IsFree : ℕ → ℕ → ℕ → List Instance → Type 0
IsFree granule address end [] = Unit {0}
IsFree granule address end (x ∷ xs) = ((end ≤ x.address) ⊎ (end_of granule x ≤ address)) × IsFree granule address end xs

-- the bytes from an address to an end meet no reserved range
abbrev pub IsClear : ℕ → ℕ → List Reserved → Type 0
IsClear address end [] = Unit {0}
IsClear address end (r ∷ rs) = ((end ≤ r.from) ⊎ (r.to ≤ address)) × IsClear address end rs

-- an address at which an instance of some size and alignment has room
pub record IsRoom (m : Layout) (size alignment address : ℕ) : Type 0 where
  pub from : first_address ≤ address
  pub aligned : address % step_of m.granule alignment ≡ 0
  pub inside : address + taken m.granule size ≤ m.limit
  pub free : IsFree m.granule address (address + taken m.granule size) m.instances
  pub clear : IsClear address (address + taken m.granule size) m.reserved

-- the lowest address with room
pub record IsLowest (m : Layout) (size alignment address : ℕ) : Type 0 where
  pub room : IsRoom m size alignment address
  pub lowest : (other : ℕ) → IsRoom m size alignment other → address ≤ other

-- the memory with a new instance at a place, all zeros
abbrev pub with_new : Layout → Place → Layout
with_new m place = with_instances m (with_instance m.instances (record { address = place.address; bytes = replicate place.size 0 }))

-- the memory with a new instance at a place: an image, and zeros after it
abbrev pub with_image : Layout → Place → List ℕ → Layout
with_image m place image = with_instances m (with_instance m.instances (record { address = place.address; bytes = filled image place.size }))

-- when an instance may be refused: for no room if no address has it, and for a failed allocation only if
-- one has
abbrev pub MayRefuse : Layout → ℕ → ℕ → MemoryFault → Type 0
MayRefuse m size alignment NoRoom = (address : ℕ) → IsRoom m size alignment address → ⊥
MayRefuse m size alignment OutOfMemory = (address : ℕ) × IsRoom m size alignment address

-- when an instance may be refused at an address that is given
abbrev pub MayRefuseAt : Layout → ℕ → ℕ → ℕ → MemoryFault → Type 0
MayRefuseAt m size alignment address NoRoom = IsRoom m size alignment address → ⊥
MayRefuseAt m size alignment address OutOfMemory = IsRoom m size alignment address

-- instances from an address on up to a limit, one after the other
abbrev pub IsLaidOut : ℕ → ℕ → ℕ → List Instance → Type 0
IsLaidOut granule from limit [] = Unit {0}
IsLaidOut granule from limit (x ∷ xs) = (from ≤ x.address) × (end_of granule x ≤ limit) × IsLaidOut granule (end_of granule x) limit xs

-- reserved ranges from an address on, one after the other, none of them empty
abbrev pub AreInTurn : ℕ → List Reserved → Type 0
AreInTurn from [] = from ≤ 2 ^ 32
AreInTurn from (r ∷ rs) = (from ≤ r.from) × (r.from < r.to) × AreInTurn r.to rs

-- no instance meets a reserved range
abbrev pub AreClear : ℕ → List Instance → List Reserved → Type 0
AreClear granule [] rs = Unit {0}
AreClear granule (x ∷ xs) rs = IsClear x.address (end_of granule x) rs × AreClear granule xs rs

-- the instances of a memory lie in the order of their addresses, its reserved ranges in theirs, and none of them
-- overlaps another
pub record IsInOrder (m : Layout) : Type 0 where
  pub laid_out : IsLaidOut m.granule first_address m.limit m.instances
  pub in_turn : AreInTurn 0 m.reserved
  pub clear : AreClear m.granule m.instances m.reserved
