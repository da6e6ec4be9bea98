-- The place of the first zero byte, and the name before it.
use Rattle.std.proofs.Common.{◌≡◌, ◌≢◌, ℕ, zero, suc, ◌<◌, List, [], ◌∷◌, None, Some, length, take, slice_index, refl, arith}
use Rattle.std.proofs.lemmas.Bool.{ne_eqb}
use Rattle.std.proofs.Common.{eq-eqb}
use Rattle.pef_words.specs.Bytes.{before_zero}

-- without a zero byte there is no name
pub before_zero-none : (bytes : List ℕ) → ((k : ℕ) → k < length bytes → slice_index bytes k ≢ 0) → before_zero bytes ≡ None
before_zero-none [] nowhere = refl
before_zero-none (b ∷ bytes) nowhere =
    let later = before_zero-none bytes (λ k under. nowhere (suc k) (omega arith)) in
    rw (ne_eqb b 0 (nowhere 0 (omega arith)), later) refl

-- if the first zero byte is at k, the name is the k bytes before it
pub before_zero-some : (bytes : List ℕ) (k : ℕ) → k < length bytes → ((j : ℕ) → j < k → slice_index bytes j ≢ 0) → slice_index bytes k ≡ 0 → before_zero bytes ≡ Some (take k bytes)
before_zero-some [] k under nowhere here = absurd (omega arith)
before_zero-some (b ∷ bytes) zero under nowhere here = rw (eq-eqb b 0 here) refl
before_zero-some (b ∷ bytes) (suc k) under nowhere here =
    let later = before_zero-some bytes k (omega arith) (λ j below. nowhere (suc j) (omega arith)) here in
    rw (ne_eqb b 0 (nowhere 0 (omega arith)), later) refl
