-- Where a list of bytes is cut.
use Rattle.std.proofs.Common.{◌≡◌, ◌≢◌, ℕ, zero, suc, ◌<◌, List, [], ◌∷◌, None, Some, length, take, drop, slice_index, refl, arith, eq-eqb}
use Rattle.std.proofs.lemmas.Bool.{ne_eqb}
use Rattle.pef_lines.specs.Lines.{cut_at}

-- without such a byte there is no cut
pub cut_at-none : (byte : ℕ) (bytes : List ℕ) → ((k : ℕ) → k < length bytes → slice_index bytes k ≢ byte) → cut_at byte bytes ≡ None
cut_at-none byte [] nowhere = refl
cut_at-none byte (b ∷ bytes) nowhere =
    let later = cut_at-none byte bytes (λ k under. nowhere (suc k) (omega arith)) in
    rw (ne_eqb b byte (nowhere 0 (omega arith)), later) refl

-- the first such byte is where the cut is
pub cut_at-some : (byte : ℕ) (bytes : List ℕ) (k : ℕ) → k < length bytes → ((j : ℕ) → j < k → slice_index bytes j ≢ byte) → slice_index bytes k ≡ byte → cut_at byte bytes ≡ Some (take k bytes, drop 1 (drop k bytes))
cut_at-some byte [] k under nowhere here = absurd (omega arith)
cut_at-some byte (b ∷ bytes) zero under nowhere here = rw (eq-eqb b byte here) refl
cut_at-some byte (b ∷ bytes) (suc k) under nowhere here =
    let later = cut_at-some byte bytes k (omega arith) (λ j below. nowhere (suc j) (omega arith)) here in
    rw (ne_eqb b byte (nowhere 0 (omega arith)), later) refl
