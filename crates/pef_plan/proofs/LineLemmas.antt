-- The least of a line of numbers.
use Rattle.std.proofs.Common.{◌≡◌, ℕ, ◌+◌, ◌<◌, ◌≤◌, inl, inr, min, ap, sym, ◌∙◌, arith}
use Rattle.std.proofs.lemmas.Bool.Decides.{eqb_tells}
use Rattle.pef_words.proofs.Laws.Numbers.{min_is}
use Rattle.pef_plan.specs.Kept.Rows.{LeastOf}

-- the least of one
pub least-one : (f : ℕ → ℕ) (value : ℕ) → f 0 ≡ value → LeastOf 1 f value
least-one f value is = record {
  low = λ x under. (let first : x ≡ 0 = omega (arith, under) in let same : f x ≡ value = ap f first ∙ is in omega (arith, same));
  at = 0;
  under = omega arith;
  is = is;
}

-- the least of one more number
pub least-more : (i : ℕ) (f : ℕ → ℕ) (low next : ℕ) → LeastOf i f low → f i ≡ next → LeastOf (i + 1) f (min low next)
least-more i f low next l is =
    elim (min_is low next) [
      | inl first ↦ record { low = λ x under. below x under; at = l.at; under = (let u = l.under in omega (arith, u)); is = l.is ∙ sym first }
      | inr second ↦ record { low = λ x under. below x under; at = i; under = omega arith; is = is ∙ sym second }
    ]
  where
    below : (x : ℕ) → x < i + 1 → min low next ≤ f x
    below x under =
        elim (eqb_tells x i) [
          | inl same ↦ (let e = ap f same.1 in omega (arith, e, is))
          | inr other ↦ (let apart = other.1 in let u = l.low x (omega (arith, under)) in omega (arith, u))
        ]
