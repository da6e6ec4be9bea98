-- Comparisons of numbers, and numbers among bytes.
use Rattle.std.proofs.Common.{List, drop, length, length-take, refl, suc, take, zero, ◌&&◌, ◌+◌, ◌-◌, ◌<◌, ◌==◌, ◌∙◌, ◌≡◌, ◌≤◌, ◌⊎◌, ap, arith, inl, inr, min, nat_le, true, ℕ}
use Rattle.std.proofs.Math.ListN.{drop_of_length-le}
use Rattle.std.specs.Ordering.{is_eq, nat_cmp}
use Rattle.std.specs.declared.cmp.Ordering.TheVariants.{Greater}
use Rattle.std.proofs.lemmas.Bool.{and_from, cases_lt, le-leb}
use Rattle.std.proofs.lemmas.List.{drop-take, get_or-take, length-take-le}
use Rattle.byteorder.specs.Endian.{big_from}
use Rattle.pef_words.specs.Bytes.{number_at}
use Rattle.std.proofs.lemmas.Bool.Decides.{eqb_tells, nat_tests}

-- the lesser of two numbers is one of them
pub min_is : (v w : ℕ) → (min v w ≡ v) ⊎ (min v w ≡ w)
min_is v w = grind arith

-- a number at most another is below it or equal to it
pub below_or : (a b : ℕ) → a < b + 1 → (a < b) ⊎ (a ≡ b)
below_or a b under =
    elim (eqb_tells a b) [
      | inl same ↦ inr same.1
      | inr other ↦ (let apart = other.1 in inl (omega arith))
    ]

-- a number between one and the most passes both tests
pub counts_fit : (most n : ℕ) → 1 ≤ n → n ≤ most → (nat_le 1 n && nat_le n most) ≡ true
counts_fit most n some few = and_from (nat_le 1 n) (nat_le n most) (le-leb 1 n some) (le-leb n most few)

-- whether two numbers are equal, and whether the first is greater, as an ordered map compares them
pub cmp_equal : (a b : ℕ) → is_eq (nat_cmp a b) ≡ (b == a)
cmp_equal a b = grind (arith, nat_tests)

pub cmp_greater : (a b : ℕ) → b < a → nat_cmp a b ≡ Greater
cmp_greater a b more = grind (arith, nat_tests)

-- bytes that are kept, from a place on
pub rest-kept : (at end : ℕ) (bytes : List ℕ) → drop at (take end bytes) ≡ take (end - at) (drop at bytes)
rest-kept at end bytes = elim (cases_lt at end) [
  | inl less ↦ (let e : end ≡ at + (end - at) = omega (arith, less) in ap (λ x. drop at (take x bytes)) e ∙ drop-take at (end - at) bytes)
  | inr past ↦ (
      let none : end - at ≡ 0 = omega (arith, past) in
      let few = length-take end bytes in
      rw none (drop_of_length-le (take end bytes) (omega (arith, few, past)))
      )
]

-- the digits of a number that is among them, and the number
digits-kept : (i n m : ℕ) (xs : List ℕ) → i + n ≤ m → big_from i n (take m xs) ≡ big_from i n xs
digits-kept i zero m xs within = refl
digits-kept i (suc n) m xs within = rw (get_or-take m xs i 0 (omega (arith, within)), digits-kept (suc i) n m xs (omega (arith, within))) refl

pub number-kept : (n at end : ℕ) (bytes : List ℕ) → at + n ≤ end → end ≤ length bytes → number_at n (take end bytes) at ≡ number_at n bytes at
unfolding number_at
number-kept n at end bytes within under =
    rw (length-take-le end bytes under, le-leb (at + n) end within, le-leb (at + n) (length bytes) (omega (arith, within, under)), rest-kept at end bytes, digits-kept 0 n (end - at) (drop at bytes) (omega (arith, within))) refl
