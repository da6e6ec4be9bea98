-- The numbers of placement. The format doesn't say where a section lies, so they are this project's own.
use Rattle.std.specs.Prelude.{ℕ, ◌≤◌, ◌<◌, ◌^◌, IsTrue}
use Rattle.std.specs.Int.{is_power_of_two}

-- the lowest address of an instance (00010000 in hex)
abbrev pub first_address : ℕ
first_address = 65536

-- the ends of reserved ranges are multiples of this. So are the addresses of instances, and their sizes rounded up, in a
-- memory that is made without a granule
abbrev pub grain : ℕ
grain = 16

-- a granule: a power of two from the grain on
pub record IsGranule (n : ℕ) : Type 0 where
  pub power_of_two : IsTrue (is_power_of_two n)
  pub least : grain ≤ n
  pub small : n < 2 ^ 32

-- the greatest alignment, as an exponent of two
abbrev pub greatest_alignment : ℕ
greatest_alignment = 31
