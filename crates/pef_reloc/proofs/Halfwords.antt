-- Numbers inside some bytes.
use Rattle.std.proofs.Common.{◌≡◌, ℕ, ◌+◌, ◌≤◌, Bool, true, false, cond, List, length, drop, nat_le, None, Some, refl}
use Rattle.std.proofs.lemmas.Bool.{leb-true}
use Rattle.byteorder.specs.Endian.{big_number}
use Rattle.pef_words.specs.Bytes.{number_at}

met : (b : Bool) (x y : ℕ) → cond b (Some x) None ≡ Some y → b ≡ true
met true x y e = refl
met false x y e = absurd (cc)

-- a number that is read is inside
pub number_inside : (n : ℕ) (bytes : List ℕ) (at x : ℕ) → number_at n bytes at ≡ Some x → at + n ≤ length bytes
unfolding number_at
number_inside n bytes at x e = leb-true _ _ (met (nat_le (at + n) (length bytes)) (big_number n (drop at bytes)) x e)
