-- How many imports a library has, and those before it.
use Rattle.std.proofs.Common.{◌≡◌, ℕ, zero, suc, ◌+◌, ◌<◌, ◌≤◌, ◌==◌, Bool, true, false, cond, List, [], ◌∷◌, None, Some, length, map, get_or, slice_get, refl, arith}
use Rattle.std.specs.Prelude.{nat_lt}
use Rattle.std.specs.List.{AllByRecursion, count_by}
use Rattle.std.proofs.lemmas.Bool.{lt-ltb, le-ltb}
use Rattle.std.proofs.lemmas.Bool.Decides.{nat_tests}
use Rattle.std.proofs.lemmas.List.Sums.{count_by-le-length, sum_by-cons}
use Rattle.std.proofs.lemmas.Option.{get_or_from_slice_get, slice_get_within}
use Rattle.pef_format.specs.Symbols.{Import}
use Rattle.pef_script.specs.WellFormed.{Rises}
use Rattle.pef_write.proofs.Listing.{none_past}

-- how many imports the libraries before number k have, and how many that one has
abbrev pub count_before : ℕ → List Import → ℕ
count_before k imports = count_by (λ i. nat_lt i.library k) imports

abbrev pub count_of : ℕ → List Import → ℕ
count_of k imports = count_by (λ i. i.library == k) imports

before-cons : (k : ℕ) (x : Import) (imports : List Import) → count_before k (x ∷ imports) ≡ cond (nat_lt x.library k) 1 0 + count_before k imports
before-cons k x imports = sum_by-cons (λ (i : Import). cond (nat_lt i.library k) 1 0) x imports

of-cons : (k : ℕ) (x : Import) (imports : List Import) → count_of k (x ∷ imports) ≡ cond (x.library == k) 1 0 + count_of k imports
of-cons k x imports = sum_by-cons (λ (i : Import). cond (i.library == k) 1 0) x imports

bit_of : (b c : Bool) → b ≡ c → cond {A = ℕ} b 1 0 ≡ cond {A = ℕ} c 1 0
bit_of b c same = cc

-- no library is before the first
pub none_before : (imports : List Import) → count_before 0 imports ≡ 0
none_before [] = refl
none_before (x ∷ imports) = omega (arith, before-cons 0 x imports, bit_of (nat_lt x.library 0) false (le-ltb x.library 0 (omega arith)), none_before imports)

one : (x k : ℕ) → cond (nat_lt x (k + 1)) 1 0 ≡ cond (nat_lt x k) 1 0 + cond (x == k) 1 0
one x k = grind (arith, nat_tests)

-- the imports of a library are after those of the libraries before it
pub before-next : (k : ℕ) (imports : List Import) → count_before (k + 1) imports ≡ count_before k imports + count_of k imports
before-next k [] = refl
before-next k (x ∷ imports) = omega (arith, before-cons (k + 1) x imports, before-cons k x imports, of-cons k x imports, one x.library k, before-next k imports)

pub from_within : (first k : ℕ) (imports : List Import) → first ≡ count_before k imports → first ≤ count_before (k + 1) imports
from_within first k imports is = omega (arith, is, before-next k imports)

-- an import of an earlier library is counted, and with it all before it
pub counted-here : (k : ℕ) (imports : List Import) (j : ℕ) (d : Import) → Rises (map (λ symbol. symbol.library) imports) → j < length imports → (get_or imports j d).library < k → j + 1 ≤ count_before k imports
counted-here k [] j d rises under early = absurd (omega arith)
counted-here k (x ∷ imports) zero d rises under early =
    omega (arith, before-cons k x imports, bit_of _ _ (lt-ltb x.library k early))
counted-here k (x ∷ imports) (suc j) d rises under early =
    let least = least_of x.library imports j d rises.0 (omega arith) in
    let first = bit_of _ _ (lt-ltb x.library k (omega arith)) in
    omega (arith, before-cons k x imports, first, counted-here k imports j d rises.1 (omega arith) early)
  where
    least_of : (n : ℕ) (imports : List Import) (j : ℕ) (d : Import) → AllByRecursion (λ y. n ≤ y) (map (λ symbol. symbol.library) imports) → j < length imports → n ≤ (get_or imports j d).library
    least_of n [] j d each under = absurd (omega arith)
    least_of n (x ∷ imports) zero d each under = each.0
    least_of n (x ∷ imports) (suc j) d each under = least_of n imports j d each.1 (omega arith)

-- if an import is of a later library, none from it on is counted
pub counted-past : (k : ℕ) (imports : List Import) (j : ℕ) (d : Import) → Rises (map (λ symbol. symbol.library) imports) → j < length imports → k ≤ (get_or imports j d).library → count_before k imports ≤ j
counted-past k [] j d rises under late = absurd (omega arith)
counted-past k (x ∷ imports) zero d rises under late =
    let first = bit_of _ _ (le-ltb x.library k late) in
    omega (arith, before-cons k x imports, first, none_counted x.library imports rises.0 late)
  where
    none_counted : (n : ℕ) (imports : List Import) → AllByRecursion (λ y. n ≤ y) (map (λ symbol. symbol.library) imports) → k ≤ n → count_before k imports ≡ 0
    none_counted n [] each late = refl
    none_counted n (x ∷ imports) each late =
        let first = bit_of _ _ (le-ltb x.library k (let low = each.0 in omega arith)) in
        omega (arith, before-cons k x imports, first, none_counted n imports each.1 late)
counted-past k (x ∷ imports) (suc j) d rises under late =
    omega (arith, before-cons k x imports, at_most (nat_lt x.library k), counted-past k imports j d rises.1 (omega arith) late)
  where
    at_most : (b : Bool) → cond b 1 0 ≤ 1
    at_most true = omega arith
    at_most false = omega arith

-- the same for an import that is found
pub counted-found : (k : ℕ) (imports : List Import) (j : ℕ) (x : Import) → Rises (map (λ symbol. symbol.library) imports) → slice_get imports j ≡ Some x → x.library < k → j + 1 ≤ count_before k imports
counted-found k imports j x rises found early =
    counted-here k imports j x rises (slice_get_within imports j x found) (rw (get_or_from_slice_get imports j x x found) early)

pub past-found : (k : ℕ) (imports : List Import) (j : ℕ) (x : Import) → Rises (map (λ symbol. symbol.library) imports) → slice_get imports j ≡ Some x → k ≤ x.library → count_before k imports ≤ j
past-found k imports j x rises found late =
    counted-past k imports j x rises (slice_get_within imports j x found) (rw (get_or_from_slice_get imports j x x found) late)

-- past the last import all are counted
pub past-all : (k : ℕ) (imports : List Import) (j : ℕ) → slice_get imports j ≡ None → count_before k imports ≤ j
past-all k imports j none = omega (arith, none_past imports j none, count_by-le-length (λ (i : Import). nat_lt i.library k) imports)
