-- The first answer at some places, the first test of a table that holds, and what is read unless
-- refused.
use Rattle.std.proofs.Common.{◌≡◌, ℕ, zero, suc, ◌+◌, ◌-◌, ◌<◌, ◌≤◌, ◌⊎◌, Bool, true, false, cond, Option, None, Some, refl, subst, inl, inr, arith}
use Rattle.std.specs.Prelude.{Result, Ok}
use Rattle.std.specs.Option.{option_or}
use Rattle.std.proofs.lemmas.Bool.Decides.{eqb_tells}
use Rattle.pef_words.specs.Refusals.{first_among, unless}

-- a place without an answer is passed over
pub first_among-next : {F : Type 0} (answer : ℕ → Option F) (i n : ℕ) → i < n → answer i ≡ None → first_among answer i (n - i) ≡ first_among answer (i + 1) (n - (i + 1))
first_among-next answer i n under none =
    let e : n - i ≡ suc (n - (i + 1)) = omega arith in
    rw (e, none) refl

-- a place with an answer ends the search
pub first_among-here : {F : Type 0} (answer : ℕ → Option F) (i n : ℕ) (x : F) → i < n → answer i ≡ Some x → first_among answer i (n - i) ≡ Some x
first_among-here answer i n x under some =
    let e : n - i ≡ suc (n - (i + 1)) = omega arith in
    rw (e, some) refl

-- no place is left after the last one
pub first_among-end : {F : Type 0} (answer : ℕ → Option F) (i n : ℕ) → n ≤ i → first_among answer i (n - i) ≡ None
first_among-end answer i n past =
    let e : n - i ≡ 0 = omega arith in
    rw e refl

-- if the choice between two answers is none, both are none
pub neither : {F : Type 0} (a b : Option F) → option_or a b ≡ None → (a ≡ None) × (b ≡ None)
neither None b none = (refl, none)
neither (Some x) b none = (none, absurd (cc))

-- if there is no first answer, no place has one
pub none_among : {F : Type 0} (answer : ℕ → Option F) (from n k : ℕ) → first_among answer from n ≡ None → from ≤ k → k < from + n → answer k ≡ None
none_among answer from zero k none low high = absurd (omega arith)
none_among {F} answer from (suc n) k none low high =
    let both = neither (answer from) (first_among answer (from + 1) n) none in
    elim (eqb_tells from k) [
      | inl same ↦ (let P : ℕ → Type 0 = λ j. answer j ≡ None in subst P same.1 both.0)
      | inr other ↦ (let apart = other.1 in none_among answer (from + 1) n k both.1 (omega arith) (omega arith))
    ]

-- if no place has an answer, there is no first one
pub first_among-none : {F : Type 0} (answer : ℕ → Option F) (from n : ℕ) → ((k : ℕ) → from ≤ k → k < from + n → answer k ≡ None) → first_among answer from n ≡ None
first_among-none answer from zero none = refl
first_among-none answer from (suc n) none =
    let later = first_among-none answer (from + 1) n (λ k low high. none k (omega arith) (omega arith)) in
    rw (none from (omega arith) (omega arith), later) refl

-- if no place before k has an answer, that of k is the first
pub first_among-at : {F : Type 0} (answer : ℕ → Option F) (from n k : ℕ) (x : F) → k < n → ((j : ℕ) → from ≤ j → j < from + k → answer j ≡ None) → answer (from + k) ≡ Some x → first_among answer from n ≡ Some x
first_among-at answer from zero k x under none here = absurd (omega arith)
first_among-at answer from (suc n) zero x under none here =
    let e : from + 0 ≡ from = omega arith in
    rw (rw e at here) refl
first_among-at answer from (suc n) (suc k) x under none here =
    let e : from + suc k ≡ from + 1 + k = omega arith in
    let later = first_among-at answer (from + 1) n k x (omega arith) (λ j low high. none j (omega arith) (omega arith)) (rw e at here) in
    rw (none from (omega arith) (omega arith), later) refl

-- a place with its answer
pub record AnswersAt {F : Type 0} (answer : ℕ → Option F) (from n : ℕ) (x : F) : Type 0 where
  pub at : ℕ
  pub low : from ≤ at
  pub high : at < from + n
  pub is : answer at ≡ Some x
  pub before : (k : ℕ) → from ≤ k → k < at → answer k ≡ None

-- the choice between two answers is one of them
either_is : {F : Type 0} (a b : Option F) (x : F) → option_or a b ≡ Some x → (a ≡ Some x) ⊎ ((a ≡ None) × (b ≡ Some x))
either_is None b x some = inr (refl, some)
either_is (Some y) b x some = inl some

-- no answer here, and none after it up to a place
none-before : {F : Type 0} (answer : ℕ → Option F) (from at : ℕ) → answer from ≡ None → ((k : ℕ) → from + 1 ≤ k → k < at → answer k ≡ None) → (k : ℕ) → from ≤ k → k < at → answer k ≡ None
none-before answer from at here later k low high =
    elim (eqb_tells from k) [
      | inl same ↦ (let P : ℕ → Type 0 = λ j. answer j ≡ None in subst P same.1 here)
      | inr other ↦ (let apart = other.1 in later k (omega arith) high)
    ]

-- a first answer is that of some place, and no place before it has one
pub some_among : {F : Type 0} (answer : ℕ → Option F) (from n : ℕ) (x : F) → first_among answer from n ≡ Some x → AnswersAt answer from n x
some_among answer from zero x some = absurd (cc)
some_among answer from (suc n) x some =
    elim (either_is (answer from) (first_among answer (from + 1) n) x some) [
      | inl here ↦ record { at = from; low = omega arith; high = omega arith; is = here; before = λ k low high. absurd (omega arith) }
      | inr later ↦ (let r = some_among answer (from + 1) n x later.1 in record { at = r.at; low = omega arith; high = omega arith; is = r.is; before = none-before answer from r.at later.0 r.before })
    ]

-- if no test of a table holds, its first one doesn't, nor does any later one
pub first_unmet : {F : Type 0} (b : Bool) (x : F) (others : Option F) → cond b (Some x) others ≡ None → (b ≡ false) × (others ≡ None)
first_unmet true x others none = absurd (cc)
first_unmet false x others none = (refl, none)

-- a value that is read unless there is a refusal was read if there is none
pub unless_ok : {A F : Type 0} (fault : Option F) (r : Result A F) (x : A) → unless fault r ≡ Ok x → (fault ≡ None) × (r ≡ Ok x)
unless_ok None r x ok = (refl, ok)
unless_ok (Some fault) r x ok = absurd (cc)
