-- Places of pairs of classes in a row, and rows that are filled place by place.
use Rattle.std.proofs.Common.{◌≡◌, ℕ, zero, suc, ◌+◌, ◌*◌, ◌<◌, ◌≤◌, ◌⊎◌, inl, inr, refl, List, length, slice_index, ap, ap₂, sym, ◌∙◌, subst, arith}
use Rattle.std.specs.Prelude.{replicate, slice_set}
use Rattle.std.proofs.lemmas.Bool.Decides.{eqb_tells}
use Rattle.std.proofs.lemmas.List.{get_or-set_other, get_or-set_same}
use Rattle.std.proofs.lemmas.Nat.{mul-add-lt}
use Rattle.pef_plan.specs.Runs.Tables.{place_of}

pub place_under : (r c d : ℕ) → c < r → d < r → place_of r c d < r * r
place_under r c d under_c under_d = mul-add-lt c r d r under_c under_d

mul_low : (a b r : ℕ) → a ≤ b → a * r ≤ b * r
mul_low zero b r low = omega arith
mul_low (suc a) zero r low = absurd (omega (arith, low))
mul_low (suc a) (suc b) r low = let less = mul_low a b r (omega (arith, low)) in omega (arith, less)

-- the numbers of one class of C
pub line_inside : (r c : ℕ) → c < r → c * r + r ≤ r * r
line_inside r c under = let low = mul_low (c + 1) r r (omega (arith, under)) in omega (arith, low)

-- the class of C at a place
pub class_under : (r c d : ℕ) → place_of r c d < r * r → c < r
class_under r c d under =
    elim (less_or_not c r) [
      | inl less ↦ less
      | inr not ↦ (let high = mul_low r c r not in absurd (omega (arith, high, under)))
    ]
  where
    less_or_not : (a b : ℕ) → (a < b) ⊎ (b ≤ a)
    less_or_not a zero = inr (omega arith)
    less_or_not zero (suc b) = inl (omega arith)
    less_or_not (suc a) (suc b) = elim (less_or_not a b) [ inl less ↦ inl (omega (arith, less)) | inr not ↦ inr (omega (arith, not)) ]

-- a place is that of one pair
pub same_place : (r c d c' d' : ℕ) → d < r → d' < r → place_of r c d ≡ place_of r c' d' → (c ≡ c') × (d ≡ d')
same_place r zero d zero d' under under' same = (omega arith, omega (arith, same))
same_place r zero d (suc c') d' under under' same = absurd (omega (arith, same, under))
same_place r (suc c) d zero d' under under' same = absurd (omega (arith, same, under'))
same_place r (suc c) d (suc c') d' under under' same =
    let e = same_place r c d c' d' under under' (omega (arith, same)) in
    (ap suc e.0, e.1)

-- a row is filled up to a place
abbrev pub Filled : ℕ → (ℕ → ℕ → ℕ → Type 0) → List ℕ → ℕ → Type 0
Filled r P row place = (c d : ℕ) → d < r → place_of r c d < place → P c d (slice_index row (place_of r c d))

pub filled-set : (r : ℕ) (P : ℕ → ℕ → ℕ → Type 0) (row : List ℕ) (place c d x : ℕ) → place ≡ place_of r c d → place < length row → d < r → P c d x → Filled r P row place → Filled r P (slice_set row place x) (place + 1)
filled-set r P row place c d x is inside under new filled = λ c' d' under' low.
    elim (eqb_tells (place_of r c' d') place) [
      | inl same ↦
          (let pair = same_place r c d c' d' under under' (sym is ∙ sym same.1) in
          let here : P c' d' x = subst (λ (y : ℕ). P c' y x) pair.1 (subst (λ (y : ℕ). P y d x) pair.0 new) in
          subst (λ (v : ℕ). P c' d' v) (sym (ap (slice_index (slice_set row place x)) same.1 ∙ get_or-set_same row place x 0 inside)) here)
      | inr other ↦
          (let apart = other.1 in
          subst (λ (v : ℕ). P c' d' v) (sym (get_or-set_other row place (place_of r c' d') x 0 apart)) (filled c' d' under' (omega (arith, low, apart))))
    ]

-- the pair of the next place: at the end of a line, and within one
pub next_line : (r place c d c' d' : ℕ) → place ≡ place_of r c d → d < r → d + 1 ≡ r → c' ≡ c + 1 → d' ≡ 0 → (place + 1 ≡ place_of r c' d') × (d' < r)
next_line r place c d c' d' is under end c_is d_is =
    let line : (c + 1) * r ≡ c * r + r = omega arith in
    let there : place_of r c' d' ≡ (c + 1) * r + 0 = ap₂ (λ x y. x * r + y) c_is d_is in
    (omega (arith, is, end, line, there), omega (arith, under, d_is))

pub next_along : (r place c d c' d' : ℕ) → place ≡ place_of r c d → d < r → (d + 1 ≡ r → ⊥) → c' ≡ c → d' ≡ d + 1 → (place + 1 ≡ place_of r c' d') × (d' < r)
next_along r place c d c' d' is under on c_is d_is =
    let there : place_of r c' d' ≡ c * r + (d + 1) = ap₂ (λ x y. x * r + y) c_is d_is in
    (omega (arith, is, there), omega (arith, under, on, d_is))

-- zeros at each place
zeros_line : (n i : ℕ) → slice_index (replicate n 0) i ≡ 0
zeros_line zero i = refl
zeros_line (suc n) zero = refl
zeros_line (suc n) (suc i) = zeros_line n i

pub zeros_at : (n i : ℕ) (row : List ℕ) → row ≡ replicate n 0 → slice_index row i ≡ 0
zeros_at n i row is = ap (λ r. slice_index r i) is ∙ zeros_line n i
