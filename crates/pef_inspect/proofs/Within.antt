-- The parts that cost no more than a limit together.
use Rattle.std.proofs.Common.{◌≡◌, ℕ, zero, suc, ◌+◌, ◌-◌, ◌<◌, ◌≤◌, List, [], ◌∷◌, ◌++◌, Bool, true, false, cond, Option, None, Some, refl, ap, subst, arith}
use Rattle.std.specs.Prelude.{nat_lt}
use Rattle.std.specs.Option.{option_to_list}
use Rattle.std.proofs.lemmas.Bool.{le-ltb, lt-ltb, ltb-false, ltb-true}
use Rattle.pef_words.specs.Findings.{all_among}
use Rattle.pef_inspect.specs.declared.finding.Finding.{Finding}
use Rattle.pef_inspect.specs.Limits.{checked_within, left_within, less, rest_of, total, within}

-- something costs no more than a limit, and this is left
pub record Fits (limit cost rest : ℕ) : Type 0 where
  pub cheap : cost ≤ limit
  pub rest_is : rest ≡ limit - cost

pub less-some : (limit cost rest : ℕ) → Some rest ≡ less limit cost → Fits limit cost rest
less-some limit cost rest is = by (nat_lt limit cost) refl is
  where
    by : (b : Bool) → nat_lt limit cost ≡ b → Some rest ≡ cond b None (Some (limit - cost)) → Fits limit cost rest
    by true dear is = absurd (cc is)
    by false cheap is = record { cheap = ltb-false limit cost cheap; rest_is = cc is }

pub within-next : (cost : ℕ → ℕ) (left i n : ℕ) → i < n → cost i ≤ left → within cost left i (n - i) ≡ suc (within cost (left - cost i) (i + 1) (n - (i + 1)))
within-next cost left i n under cheap =
    let e : n - i ≡ suc (n - (i + 1)) = omega arith in
    rw (e, le-ltb left (cost i) cheap) refl

pub left-next : (cost : ℕ → ℕ) (left i n : ℕ) → i < n → cost i ≤ left → left_within cost left i (n - i) ≡ left_within cost (left - cost i) (i + 1) (n - (i + 1))
left-next cost left i n under cheap =
    let e : n - i ≡ suc (n - (i + 1)) = omega arith in
    rw (e, le-ltb left (cost i) cheap) refl

pub nil-right : {F : Type 0} (xs : List F) → xs ≡ xs ++ []
nil-right [] = refl
nil-right (x ∷ xs) = ap (λ ys. x ∷ ys) (nil-right xs)

-- all parts were checked
pub checked-all : (cost : ℕ → ℕ) (error : ℕ → Option Finding) (unchecked : ℕ → Finding) (most count reached : ℕ) → reached ≡ within cost most 0 count → count ≤ reached → all_among (λ i. option_to_list (error i)) 0 reached ≡ checked_within cost error unchecked most count
unfolding checked_within
checked-all cost error unchecked most count reached same all =
    let P : ℕ → Type 0 = λ r. all_among (λ i. option_to_list (error i)) 0 reached ≡ all_among (λ i. option_to_list (error i)) 0 r ++ rest_of unchecked r count in
    subst P same (rw (le-ltb reached count all) (nil-right (all_among (λ i. option_to_list (error i)) 0 reached)))

-- .. or only the first ones
pub checked-part : (cost : ℕ → ℕ) (error : ℕ → Option Finding) (unchecked : ℕ → Finding) (most count reached : ℕ) → reached ≡ within cost most 0 count → reached < count → all_among (λ i. option_to_list (error i)) 0 reached ++ unchecked reached ∷ [] ≡ checked_within cost error unchecked most count
unfolding checked_within
checked-part cost error unchecked most count reached same part =
    let P : ℕ → Type 0 = λ r. all_among (λ i. option_to_list (error i)) 0 reached ++ unchecked reached ∷ [] ≡ all_among (λ i. option_to_list (error i)) 0 r ++ rest_of unchecked r count in
    subst P same (rw (lt-ltb reached count part) refl)

-- parts that cost no more than a limit together are all within it
pub within-all : (cost : ℕ → ℕ) (left from n : ℕ) → total cost from n ≤ left → within cost left from n ≡ n
within-all cost left from zero fits = refl
within-all cost left from (suc n) fits =
    let cheap : cost from ≤ left = omega (arith, fits) in
    let rest = within-all cost (left - cost from) (from + 1) n (omega (arith, fits, cheap)) in
    rw (le-ltb left (cost from) cheap, rest) refl

-- no more parts are within a limit than there are
pub within-below : (cost : ℕ → ℕ) (left from n : ℕ) → within cost left from n ≤ n
within-below cost left from zero = omega arith
within-below cost left from (suc n) = by (nat_lt left (cost from)) (within-below cost (left - cost from) (from + 1) n)
  where
    by : (b : Bool) → within cost (left - cost from) (from + 1) n ≤ n → cond b 0 (suc (within cost (left - cost from) (from + 1) n)) ≤ suc n
    by true low = omega arith
    by false low = omega (arith, low)

-- the first part that isn't within a limit passes it, together with those before it
pub record Stops (cost : ℕ → ℕ) (left from reached : ℕ) : Type 0 where
  pub before : total cost from reached ≤ left
  pub past : left < total cost from (suc reached)

pub within-stops : (cost : ℕ → ℕ) (left from n : ℕ) → within cost left from n < n → Stops cost left from (within cost left from n)
within-stops cost left from zero part = absurd (omega (arith, part))
within-stops cost left from (suc n) part = by (nat_lt left (cost from)) refl (within-stops cost (left - cost from) (from + 1) n) part
  where
    by : (b : Bool) → nat_lt left (cost from) ≡ b
        → (within cost (left - cost from) (from + 1) n < n → Stops cost (left - cost from) (from + 1) (within cost (left - cost from) (from + 1) n))
        → cond b 0 (suc (within cost (left - cost from) (from + 1) n)) < suc n → Stops cost left from (cond b 0 (suc (within cost (left - cost from) (from + 1) n)))
    by true dear rest part = (let past = ltb-true left (cost from) dear in record { before = omega arith; past = omega (arith, past) })
    by false cheap rest part =
        let low = ltb-false left (cost from) cheap in
        let later = rest (omega (arith, part)) in
        let before = later.before in
        let past = later.past in
        record { before = omega (arith, low, before); past = omega (arith, low, past) }

-- without an error at n places there is none
pub none-each : {F : Type 0} (answers : ℕ → List F) (from n : ℕ) → ((k : ℕ) → from ≤ k → k < from + n → answers k ≡ []) → all_among answers from n ≡ []
none-each answers from zero none = refl
none-each answers from (suc n) none =
    let later = none-each answers (from + 1) n (λ k low high. none k (omega (arith, low)) (omega (arith, high))) in
    rw (none from (omega arith) (omega arith), later) refl

-- of parts without an error only the note on the others is left
pub checked-none : (cost : ℕ → ℕ) (error : ℕ → Option Finding) (unchecked : ℕ → Finding) (most count : ℕ) → ((i : ℕ) → i < count → error i ≡ None)
    → checked_within cost error unchecked most count ≡ rest_of unchecked (within cost most 0 count) count
unfolding checked_within
checked-none cost error unchecked most count none =
    let reached = within cost most 0 count in
    let few = within-below cost most 0 count in
    let each : all_among (λ i. option_to_list (error i)) 0 reached ≡ [] = none-each (λ i. option_to_list (error i)) 0 reached (λ k low high. ap option_to_list (none k (omega (arith, few, high)))) in
    rw each refl

-- .. and no note if all were within the limit
pub rest-none : (unchecked : ℕ → Finding) (reached count : ℕ) → count ≤ reached → rest_of unchecked reached count ≡ []
rest-none unchecked reached count all = rw (le-ltb reached count all) refl
