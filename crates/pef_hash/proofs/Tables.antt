-- Sizes in a table, and the numbers in it.
use Rattle.std.proofs.Common.{◌≡◌, ℕ, ◌+◌, ◌*◌, ◌^◌, ◌<◌, ◌≤◌, List, length, drop, Some, refl, arith}
use Rattle.std.specs.Prelude.{IsTrue}
use Rattle.std.proofs.Math.Nat.{pow-le-pow_right}
use Rattle.std.proofs.lemmas.Bool.{le-leb}
use Rattle.std.proofs.lemmas.Bool.Decides.{nat_tests}
use Rattle.byteorder.specs.Endian.{big_number}
use Rattle.pef_words.specs.Bytes.{number_at}
use Rattle.pef_hash.specs.Exports.{has_table}

-- the slots of a table are no more than 2^30
pub words_small : (power : ℕ) → power ≤ 30 → 2 ^ power ≤ 2 ^ 30
words_small power small = pow-le-pow_right {n = 2} (omega arith) small

-- a number that lies before the end is there
pub number_there : (n : ℕ) (bytes : List ℕ) (at : ℕ) → at + n ≤ length bytes → number_at n bytes at ≡ Some (big_number n (drop at bytes))
unfolding number_at
number_there n bytes at inside = rw (le-leb (at + n) (length bytes) inside) refl

-- if there is an export, there is a whole table
pub table_whole : (power count i : ℕ) (bytes : List ℕ) → IsTrue (has_table power count bytes) → i < count → 4 * 2 ^ power + 14 * count ≤ length bytes
table_whole power count i bytes whole under = grind (arith, nat_tests)
