-- The least and the greatest label of a line.
use Rattle.std.proofs.Common.{◌≡◌, ℕ, ◌+◌, ◌*◌, ◌<◌, ◌≤◌, ◌⊎◌, inl, inr, ◌-◌, min, max, List, [], length, ap, sym, ◌∙◌, arith, slice_index}
use Rattle.std.specs.Prelude.{slice_index_or}
use Rattle.std.proofs.Math.Path.{ap₂}
use borrow.Author.Count.{below_more}
use Rattle.pef_words.proofs.Laws.Numbers.{min_is}
use Rattle.pef_cert.specs.Valid.{labels_in}
use Rattle.pef_cert.specs.LabelTests.{SetsHold}
use Rattle.pef_cert.specs.Kept.Sets.{RowHolds}

-- a place below a count with a value
pub record Attains (count : ℕ) (f : ℕ → ℕ) (value : ℕ) : Type 0 where
  pub at : ℕ
  pub under : at < count
  pub is : f at ≡ value

max_is : (v w : ℕ) → (max v w ≡ v) ⊎ (max v w ≡ w)
max_is v w = grind arith

pub attains-min : (count at low next : ℕ) (f : ℕ → ℕ) → Attains count f low → at < count → f at ≡ next → Attains count f (min low next)
attains-min count at low next f a under is =
    elim (min_is low next) [
      | inl first ↦ record { at = a.at; under = a.under; is = a.is ∙ sym first }
      | inr second ↦ record { at = at; under = under; is = is ∙ sym second }
    ]

pub attains-max : (count at high next : ℕ) (f : ℕ → ℕ) → Attains count f high → at < count → f at ≡ next → Attains count f (max high next)
attains-max count at high next f a under is =
    elim (max_is high next) [
      | inl first ↦ record { at = a.at; under = a.under; is = a.is ∙ sym first }
      | inr second ↦ record { at = at; under = under; is = is ∙ sym second }
    ]

pub above-min : (i low next : ℕ) (f : ℕ → ℕ) → ((x : ℕ) → x < i → low ≤ f x) → f i ≡ next → (x : ℕ) → x < i + 1 → min low next ≤ f x
above-min i low next f above is = below_more (λ x. min low next ≤ f x) i (λ x under. let a = above x under in omega arith) (omega arith)

pub below-max : (i high next : ℕ) (f : ℕ → ℕ) → ((x : ℕ) → x < i → f x ≤ high) → f i ≡ next → (x : ℕ) → x < i + 1 → f x ≤ max high next
below-max i high next f below is = below_more (λ x. f x ≤ max high next) i (λ x under. let a = below x under in omega arith) (omega arith)

-- the lines of a row decide the cost of a change of a register
pub sets-row : (registers row : List ℕ) (rows : List (List ℕ)) (n j : ℕ) → j ≤ n → row ≡ slice_index_or rows j [] → RowHolds row (length registers + 1) → SetsHold (labels_in registers rows n) (n - j)
sets-row registers row rows n j inside is holds =
    let r : ℕ = length registers + 1 in
    let same : n - (n - j) ≡ j = omega arith in
    let there : row ≡ slice_index_or rows (n - (n - j)) [] = is ∙ ap (λ i. slice_index_or rows i []) (sym same) in
    record {
      c_line = λ c c' d under_c under_c' under_d.
          let low = (holds d under_d).1 c c' under_c under_c' in
          let one : d + c * r ≡ c * r + d = omega arith in
          let two : d + c' * r ≡ c' * r + d = omega arith in
          let p = ap₂ (λ x i. slice_index x i) there one in
          let q = ap₂ (λ x i. slice_index x i) there two in
          omega (arith, low, p, q);
      d_line = λ c d d' under_c under_d under_d'.
          let low = (holds c under_c).0 d d' under_d under_d' in
          let one : c * r + d * 1 ≡ c * r + d = omega arith in
          let two : c * r + d' * 1 ≡ c * r + d' = omega arith in
          let p = ap₂ (λ x i. slice_index x i) there one in
          let q = ap₂ (λ x i. slice_index x i) there two in
          omega (arith, low, p, q);
    }

pub row-sets : (registers row : List ℕ) (rows : List (List ℕ)) (n j : ℕ) → j ≤ n → row ≡ slice_index_or rows j [] → SetsHold (labels_in registers rows n) (n - j) → RowHolds row (length registers + 1)
row-sets registers row rows n j inside is sets k under =
    let r : ℕ = length registers + 1 in
    let same : n - (n - j) ≡ j = omega arith in
    let there : row ≡ slice_index_or rows (n - (n - j)) [] = is ∙ ap (λ i. slice_index_or rows i []) (sym same) in (
      λ x y under_x under_y.
          let low = sets.d_line k x y under under_x under_y in
          let one : k * r + x * 1 ≡ k * r + x = omega arith in
          let two : k * r + y * 1 ≡ k * r + y = omega arith in
          let p = ap₂ (λ x i. slice_index x i) there one in
          let q = ap₂ (λ x i. slice_index x i) there two in
          omega (arith, low, p, q),
      λ x y under_x under_y.
          let low = sets.c_line x y k under_x under_y under in
          let one : k + x * r ≡ x * r + k = omega arith in
          let two : k + y * r ≡ y * r + k = omega arith in
          let p = ap₂ (λ x i. slice_index x i) there one in
          let q = ap₂ (λ x i. slice_index x i) there two in
          omega (arith, low, p, q),
    )
