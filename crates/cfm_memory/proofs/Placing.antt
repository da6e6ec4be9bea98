-- Where the first free address lies among instances that follow one another.
use Rattle.std.proofs.Common.{◌≡◌, ℕ, ◌+◌, ◌-◌, ◌/◌, ◌%◌, ◌<◌, ◌≤◌, max, List, [], ◌∷◌, inl, inr, arith}
use Rattle.std.proofs.lemmas.Bool.{cases_lt}
use Rattle.std.proofs.Math.Nat.{mod-lt, mul-le-mul_left}
use Rattle.cfm_memory.specs.Instances.{Instance}
use Rattle.cfm_memory.specs.Placement.{taken, end_of, IsFree, IsLaidOut}
use Rattle.cfm_memory.specs.Kept.Searches.{IsFirstFree}

-- of two multiples of a number, one that is less than that number above the other isn't above it
pub no_multiple_between : (a b n : ℕ) → 0 < n → a % n ≡ 0 → b % n ≡ 0 → a < b + n → a ≤ b
no_multiple_between a b n positive a_is b_is near =
    elim (cases_lt (b / n) (a / n)) [
      | inl less ↦ (let up : b / n + 1 ≤ a / n = omega arith in absurd (omega (arith, mul-le-mul_left n up, a_is, b_is)))
      | inr le ↦ omega (arith, mul-le-mul_left n le, a_is, b_is)
    ]

-- an instance takes no fewer bytes than it has
pub within_taken : (g size : ℕ) → size ≤ taken g size
unfolding taken
within_taken g size = omega arith

pub some_taken : (g size : ℕ) → 0 < taken g size
unfolding taken
some_taken g size = omega arith

-- and no more than are up to the next multiple
pub taken_most : (g size : ℕ) → 0 < g → taken g size ≤ size + g
unfolding taken
taken_most g size some = let short = mod-lt (g - max size 1 % g) some in omega (arith, short)

-- a range that ends before the instances begin overlaps none of them
pub free_before : (g address end from limit : ℕ) (xs : List Instance) → end ≤ from → IsLaidOut g from limit xs → IsFree g address end xs
free_before g address end from limit [] before laid = tt
free_before g address end from limit (x ∷ xs) before laid =
    (inl (omega arith), free_before g address end (end_of g x) limit xs (omega arith) laid.2)

-- a range after the limit overlaps none of them
pub free_past : (g from limit address end : ℕ) (xs : List Instance) → limit ≤ address → IsLaidOut g from limit xs → IsFree g address end xs
free_past g from limit address end [] past laid = tt
free_past g from limit address end (x ∷ xs) past laid = (inr (omega arith), free_past g (end_of g x) limit address end xs past laid.2)

-- before the next instance there is room at once
pub first_before : (g n step at from limit : ℕ) (x : Instance) (xs : List Instance) → at % step ≡ 0 → at + n ≤ x.address → IsLaidOut g from limit (x ∷ xs) → IsFirstFree g n step at (x ∷ xs) at
first_before g n step at from limit x xs aligned before laid = record {
  low = omega arith;
  aligned = aligned;
  free = (inl before, free_before g at (at + n) (end_of g x) limit xs (omega arith) laid.2);
  first = λ b low _ _. low;
}

-- otherwise it is after that instance
pub first_after : (g n step at next : ℕ) (x : Instance) (xs : List Instance) (r : ℕ) → x.address < at + n → at ≤ next → end_of g x ≤ next
    → ((b : ℕ) → at ≤ b → end_of g x ≤ b → b % step ≡ 0 → next ≤ b) → IsFirstFree g n step next xs r → IsFirstFree g n step at (x ∷ xs) r
first_after g n step at next x xs r over low behind least rest = record {
  low = (let h = rest.low in omega arith);
  aligned = rest.aligned;
  free = (inr (let h = rest.low in omega arith), rest.free);
  first = λ b from aligned free. rest.first b (least b from (elim (free.0) as (λ _. end_of g x ≤ b) [ inl h ↦ omega arith | inr h ↦ h ]) aligned) aligned free.1;
}

-- the search may as well begin at the first multiple
pub first_from : (g n step at next : ℕ) (xs : List Instance) (r : ℕ) → at ≤ next → ((b : ℕ) → at ≤ b → b % step ≡ 0 → next ≤ b) → IsFirstFree g n step next xs r → IsFirstFree g n step at xs r
first_from g n step at next xs r low least rest = record {
  low = (let h = rest.low in omega arith);
  aligned = rest.aligned;
  free = rest.free;
  first = λ b from aligned free. rest.first b (least b from aligned) aligned free;
}
