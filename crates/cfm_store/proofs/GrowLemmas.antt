-- A table of places that gets more places.
use Rattle.std.proofs.Common.{◌≡◌, ℕ, zero, suc, ◌+◌, ◌-◌, ◌<◌, ◌≤◌, ◌^◌, cond, count_by, List, [], ◌∷◌, ◌++◌, length, replicate, take, None, refl, sym, ap, ◌∙◌, get_or, arith}
use Rattle.std.proofs.lemmas.List.Sums.{sum_by-append}
use Rattle.std.proofs.lemmas.List.{length-append, length-replicate}
use Rattle.cfm_store.specs.Kept.Numbers.{IsSound, is_number, value_of, values_at}

-- places without values have none
values-zeros : {T : Type 0} (values : List T) (k : ℕ) → values_at (replicate k 0) values ≡ replicate k None
values-zeros values zero = refl
values-zeros values (suc k) = ap (λ vs. None ∷ vs) (values-zeros values k)

-- they come after those that there are
pub values-grown : {T : Type 0} (numbers : List ℕ) (values : List T) (k : ℕ) → values_at (numbers ++ replicate k 0) values ≡ values_at numbers values ++ replicate k None
values-grown [] values k = values-zeros values k
values-grown (n ∷ numbers) values k = ap (λ vs. value_of values n ∷ vs) (values-grown numbers values k)

count-zeros : (k : ℕ) → count_by is_number (replicate k 0) ≡ 0
count-zeros zero = refl
count-zeros (suc k) = count-zeros k

count-grown : (numbers : List ℕ) (k : ℕ) → count_by is_number (numbers ++ replicate k 0) ≡ count_by is_number numbers
count-grown numbers k =
    let both : count_by is_number (numbers ++ replicate k 0) ≡ count_by is_number numbers + count_by is_number (replicate k 0) = sum_by-append (λ n. cond (is_number n) 1 0) numbers (replicate k 0) in
    let none = count-zeros k in
    omega arith

zero-at : (k p : ℕ) → get_or (replicate {A = ℕ} k 0) p 0 ≡ 0
zero-at zero p = refl
zero-at (suc k) zero = refl
zero-at (suc k) (suc p) = zero-at k p

number-grown : (numbers : List ℕ) (k p : ℕ) → get_or (numbers ++ replicate k 0) p 0 ≡ get_or numbers p 0
number-grown [] k p = zero-at k p
number-grown (n ∷ numbers) k zero = refl
number-grown (n ∷ numbers) k (suc p) = number-grown numbers k p

-- such a table is sound
pub sound-grown : {T : Type 0} (numbers : List ℕ) (values : List T) (k : ℕ) → IsSound numbers values → length numbers + k < 2 ^ 16 → IsSound (numbers ++ replicate k 0) values
sound-grown numbers values k sound few = record {
  few = let a = length-append numbers (replicate k 0) in let b : length (replicate {A = ℕ} k 0) ≡ k = length-replicate k 0 in omega arith;
  count = count-grown numbers k ∙ sound.count;
  within = λ p. let e = number-grown numbers k p in let w = sound.within p in omega arith;
  apart = λ p q n is is'. sound.apart p q n (sym (number-grown numbers k p) ∙ is) (sym (number-grown numbers k q) ∙ is');
}

-- the numbers after growing
pub numbers-grown : (numbers : List ℕ) (len old : ℕ) → old ≡ length numbers → length numbers ≤ len → take len numbers ++ replicate (len - old) 0 ≡ numbers ++ replicate (len - length numbers) 0
numbers-grown numbers len old is low = ap (λ ns. ns ++ replicate (len - old) 0) (taken numbers len low) ∙ ap (λ n. numbers ++ replicate (len - n) 0) is
  where
    taken : (ns : List ℕ) (n : ℕ) → length ns ≤ n → take n ns ≡ ns
    taken [] zero low = refl
    taken [] (suc n) low = refl
    taken (x ∷ ns) zero low = absurd (omega arith)
    taken (x ∷ ns) (suc n) low = ap (λ ns. x ∷ ns) (taken ns n (omega arith))
