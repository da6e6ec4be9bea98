-- Sums of numbers of 64 bits.
use Rattle.std.specs.Prelude.{ℕ, ◌-◌, ◌^◌, min}

-- a sum, up to the greatest number of 64 bits
abbrev pub up_to : ℕ → ℕ
up_to n = min n (2 ^ 64 - 1)
