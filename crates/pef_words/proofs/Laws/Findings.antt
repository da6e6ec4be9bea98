-- The first of all faults is the one that is reported alone.
use Rattle.std.proofs.Common.{◌≡◌, ◌∙◌, ℕ, zero, suc, ◌+◌, ◌-◌, ◌<◌, ◌≤◌, Bool, true, false, cond, List, [], ◌∷◌, ◌++◌, map, Option, None, Some, refl, subst, inl, inr, arith}
use Rattle.std.specs.Prelude.{Result}
use Rattle.std.specs.Option.{option_or}
use Rattle.std.specs.Result.{result_err}
use Rattle.std.proofs.lemmas.Bool.Decides.{eqb_tells}
use Rattle.std.proofs.lemmas.List.{append_assoc}
use Rattle.pef_words.specs.Findings.{all_among, all_met, first_fault}
use Rattle.pef_words.specs.Refusals.{first_among, first_met, unless}

-- of two parts
pub first_fault-append : {F : Type 0} (xs ys : List F) → first_fault (xs ++ ys) ≡ option_or (first_fault xs) (first_fault ys)
first_fault-append [] ys = refl
first_fault-append (x ∷ xs) ys = refl

-- of the tests of a table
pub first_fault-met : {F : Type 0} (tests : List (Bool × F)) → first_fault (all_met tests) ≡ first_met tests
first_fault-met [] = refl
first_fault-met (test ∷ tests) = here test.0 test.1 (all_met tests) (first_met tests) (first_fault-met tests)
  where
    here : {F : Type 0} (b : Bool) (x : F) (faults : List F) (first : Option F) → first_fault faults ≡ first → first_fault (cond b (x ∷ faults) faults) ≡ cond b (Some x) first
    here true x faults first p = refl
    here false x faults first p = p

-- of some places
pub first_fault-among : {F : Type 0} (answers : ℕ → List F) (answer : ℕ → Option F) (from n : ℕ) → ((k : ℕ) → from ≤ k → k < from + n → first_fault (answers k) ≡ answer k) → first_fault (all_among answers from n) ≡ first_among answer from n
first_fault-among answers answer from zero same = refl
first_fault-among answers answer from (suc n) same =
    let later = first_fault-among answers answer (from + 1) n (λ k low high. same k (omega arith) (omega arith)) in
    first_fault-append (answers from) (all_among answers (from + 1) n) ∙ rw (same from (omega arith) (omega arith), later) refl

-- what is read unless there is a refusal is refused by the first of both
pub result_err-unless : {A F : Type 0} (fault : Option F) (r : Result A F) → result_err (unless fault r) ≡ option_or fault (result_err r)
result_err-unless None r = refl
result_err-unless (Some fault) r = refl

-- the answers at the next place, and those after it
pub all_among-next : {F : Type 0} (answers : ℕ → List F) (i n : ℕ) → i < n → all_among answers i (n - i) ≡ answers i ++ all_among answers (i + 1) (n - (i + 1))
all_among-next answers i n under =
    let e : n - i ≡ suc (n - (i + 1)) = omega arith in
    rw e refl

-- the first test of two tables that holds
pub first_met-append : {F : Type 0} (tests others : List (Bool × F)) → first_met (tests ++ others) ≡ option_or (first_met tests) (first_met others)
first_met-append [] others = refl
first_met-append (test ∷ tests) others = here test.0 test.1 (first_met tests) (first_met others) (first_met (tests ++ others)) (first_met-append tests others)
  where
    here : {F : Type 0} (b : Bool) (x : F) (first other both : Option F) → both ≡ option_or first other → cond b (Some x) both ≡ option_or (cond b (Some x) first) other
    here true x first other both p = refl
    here false x first other both p = p

-- if more was taken, and what was left began with that, then what was taken and what is left now are the same as before
pub taken-more : {F : Type 0} (before more after left whole : List F) → after ≡ before ++ more → before ++ (more ++ left) ≡ whole → after ++ left ≡ whole
taken-more before more after left whole took all = rw took (append_assoc before more left ∙ all)

-- the first of three, where the third only matters if there is none of the others
pub option_or-third : {F : Type 0} (a b c d : Option F) → (option_or a b ≡ None → c ≡ d) → option_or a (option_or b c) ≡ option_or (option_or a b) d
option_or-third None None c d same = same refl
option_or-third None (Some x) c d same = refl
option_or-third (Some x) b c d same = refl

-- of two parts without faults, neither has one
pub none-append : {F : Type 0} (xs ys : List F) → xs ++ ys ≡ [] → (xs ≡ []) × (ys ≡ [])
none-append [] ys none = (refl, none)
none-append (x ∷ xs) ys none = absurd (cc none)

-- if no place has a fault among those at n places, each has none
pub none-among : {F : Type 0} (answers : ℕ → List F) (from n k : ℕ) → all_among answers from n ≡ [] → from ≤ k → k < from + n → answers k ≡ []
none-among answers from zero k none low high = absurd (omega arith)
none-among {F} answers from (suc n) k none low high =
    let both = none-append (answers from) (all_among answers (from + 1) n) none in
    elim (eqb_tells from k) [
      | inl same ↦ (let P : ℕ → Type 0 = λ j. answers j ≡ [] in subst P same.1 both.0)
      | inr other ↦ (let apart = other.1 in none-among answers (from + 1) n k both.1 (omega arith) (omega arith))
    ]

-- a list made of another has no entry only if the other has none
pub none-map : {F G : Type 0} (f : F → G) (xs : List F) → map f xs ≡ [] → xs ≡ []
none-map f [] none = refl
none-map f (x ∷ xs) none = absurd (cc none)
