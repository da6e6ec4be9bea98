-- Whether a list has a number.
use Rattle.std.proofs.Common.{◌≡◌, ◌≢◌, ℕ, zero, suc, ◌<◌, Bool, true, false, List, [], ◌∷◌, Ok, Err, Contains, cond, get_or, length, refl, sym, ap, ◌∙◌, inl, inr, arith}
use Rattle.std.specs.Prelude.{Result}
use Rattle.std.specs.Result.{is_err, is_ok}
use Rattle.std.specs.List.{AllPairs}
use Rattle.std.proofs.lemmas.Bool.Decides.{eqb_tells}
use Rattle.cfm_prepare.specs.Lists.{IsOnce, has}

-- a list has its first number, and those of the others
pub has-first : (q : ℕ) (qs : List ℕ) → has (q ∷ qs) q ≡ true
has-first q qs = elim (eqb_tells q q) [ inl same ↦ rw same.0 refl | inr other ↦ absurd (other.1 refl) ]

pub has-later : (q : ℕ) (qs : List ℕ) (p : ℕ) → has qs p ≡ true → has (q ∷ qs) p ≡ true
has-later q qs p there = elim (eqb_tells q p) [ inl same ↦ rw same.0 refl | inr other ↦ rw other.0 there ]

-- a list has each of its numbers
pub has-get : (ps : List ℕ) (i : ℕ) → i < length ps → has ps (get_or ps i 0) ≡ true
has-get [] i under = absurd (omega (arith, under))
has-get (q ∷ qs) zero under = has-first q qs
has-get (q ∷ qs) (suc i) under = has-later q qs (get_or qs i 0) (has-get qs i (omega (arith, under)))

-- what a list has, a longer one has
pub contains-next : {X : Type 0} (q p : X) (qs : List X) → Contains qs p → Contains (q ∷ qs) p
contains-next q p qs there = (suc there.0, omega (arith, there.1), there.2)

-- a number that a list has is in it
pub has-contains : (ps : List ℕ) (p : ℕ) → has ps p ≡ true → Contains ps p
has-contains [] p is = absurd (cc)
has-contains (q ∷ qs) p is = elim (eqb_tells q p) [
  | inl same ↦ (0, omega arith, same.1)
  | inr other ↦ contains-next q p qs (has-contains qs p (ap (λ b. cond b true (has qs p)) (sym other.0) ∙ is))
]

-- a number in a list is one that the list has
pub has-at : (ps : List ℕ) (p : ℕ) → Contains ps p → has ps p ≡ true
has-at [] p there = absurd (let low = there.1 in omega arith)
has-at (q ∷ qs) p (zero, low, is) = elim (eqb_tells q p) [ inl same ↦ rw same.0 refl | inr other ↦ (let same : q ≡ p = is in absurd (other.1 same)) ]
has-at (q ∷ qs) p (suc k, low, is) = elim (eqb_tells q p) [ inl same ↦ rw same.0 refl | inr other ↦ rw other.0 (has-at qs p (k, omega (arith, low), is)) ]

-- a list in which all numbers differ has none twice
pub once-from-pairs : (xs : List ℕ) → AllPairs (λ p q. p ≢ q) xs → IsOnce xs
once-from-pairs [] apart = tt
once-from-pairs (x ∷ xs) apart =
    (go (has xs x) refl, once-from-pairs xs (λ i j d less below. apart (suc i) (suc j) d (omega (arith, less)) (omega (arith, below))))
  where
    go : (b : Bool) → has xs x ≡ b → b ≡ false
    go true is = let there = has-contains xs x is in absurd (apart 0 (suc there.0) x (omega arith) (let h = there.1 in omega (arith, h)) (sym there.2))
    go false is = refl

-- the elements that are pushed, unless the push is refused
pub pushed-ok : {A E T : Type 0} (r : Result A E) (xs ys : List T) → is_err r ≡ false → cond (is_ok r) xs ys ≡ xs
pushed-ok (Ok x) xs ys is = refl
pushed-ok (Err e) xs ys is = absurd (cc)
