-- The instances of a memory: which bytes are where, and how they change when an instance is placed, removed
-- or written to; and the reserved ranges.
use Rattle.std.specs.Prelude.{ℕ, ◌+◌, ◌-◌, ◌==◌, ◌&&◌, Bool, false, List, [], ◌∷◌, ◌++◌, Option, None, Some, if◌then◌else◌, length, take, drop, nat_le, nat_lt}
use Rattle.std.specs.Option.{option_or}
use Rattle.cfm_memory.specs.declared.place.Place.{Place}
use Rattle.cfm_memory.specs.declared.place.Reserved.{Reserved}

-- an instance of a section: where it begins, and its readable bytes
pub record Instance : Type 0 where
  pub address : ℕ
  pub bytes : List ℕ

-- a memory: its granule, of which addresses of instances are multiples, the address that no instance may exceed, the instances
-- in the order of their addresses, and the reserved ranges in theirs
pub record Layout : Type 0 where
  pub granule : ℕ
  pub limit : ℕ
  pub instances : List Instance
  pub reserved : List Reserved

-- a memory with other instances
abbrev pub with_instances : Layout → List Instance → Layout
with_instances m xs = record m { instances = xs }

-- the bytes of the instance at an address; none if none begins there
abbrev pub bytes_at : List Instance → ℕ → Option (List ℕ)
bytes_at [] address = None
bytes_at (x ∷ xs) address = if x.address == address then Some x.bytes else bytes_at xs address

-- whether there are bytes, of this length
abbrev pub has_length : Option (List ℕ) → ℕ → Bool
has_length None size = false
has_length (Some bytes) size = length bytes == size

-- whether an instance has the address and the size of a place
abbrev pub holds_place : Layout → Place → Bool
holds_place m place = has_length (bytes_at m.instances place.address) place.size

-- the instances with one more, before those of higher addresses
abbrev pub with_instance : List Instance → Instance → List Instance
with_instance [] y = y ∷ []
with_instance (x ∷ xs) y = if nat_lt x.address y.address then x ∷ with_instance xs y else y ∷ x ∷ xs

-- the instances without the one at an address
abbrev pub without : List Instance → ℕ → List Instance
without [] address = []
without (x ∷ xs) address = if x.address == address then xs else x ∷ without xs address

-- w with the length of xs: truncated, or completed from xs
abbrev pub fitted : List ℕ → List ℕ → List ℕ
fitted xs w = take (length xs) (w ++ drop (length w) xs)

-- the instances with other bytes in the one at an address, with its length
abbrev pub with_bytes : List Instance → ℕ → List ℕ → List Instance
with_bytes [] address w = []
with_bytes (x ∷ xs) address w = if x.address == address then record x { bytes = fitted x.bytes w } ∷ xs else x ∷ with_bytes xs address w

-- the len bytes from an address on, if they lie inside an instance, or are empty and at an end of it
abbrev pub range_in : Instance → ℕ → ℕ → Option (List ℕ)
range_in x address len =
    if nat_le x.address address && nat_le (address + len) (x.address + length x.bytes)
    then Some (take len (drop (address - x.address) x.bytes))
    else None

-- the len bytes from an address on in one of several instances
abbrev pub range_at : List Instance → ℕ → ℕ → Option (List ℕ)
range_at [] address len = None
range_at (x ∷ xs) address len = option_or (range_in x address len) (range_at xs address len)
