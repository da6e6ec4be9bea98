-- Numbers in parts of a byte string.
use Rattle.std.proofs.Common.{◌≡◌, ℕ, List, take, arith}
use Rattle.byteorder.specs.Endian.{big_number}
use Rattle.byteorder.specs.Numbers.{big_from-take}

-- a number is that of its own bytes
pub number_in_part : (n : ℕ) (bytes : List ℕ) → big_number n (take n bytes) ≡ big_number n bytes
number_in_part n bytes = big_from-take 0 n n bytes (omega arith)
