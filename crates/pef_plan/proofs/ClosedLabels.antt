-- The least of some numbers over all changes of registers.
use Rattle.std.proofs.Common.{◌≡◌, ℕ, zero, suc, ◌+◌, ◌<◌, ◌≤◌, ◌⊎◌, inl, inr, min, refl, ap, ap₂, sym, ◌∙◌, subst, arith}
use Rattle.pef_cert.specs.Extension.{change}
use Rattle.pef_cert.proofs.Laws.{change_most, change_one, change_zero}
use Rattle.pef_plan.specs.Kept.Rows.{LeastOf}
use Rattle.pef_plan.proofs.LineLemmas.{least-more, least-one}

-- the least value at the numbers up to one
least_to : ℕ → (ℕ → ℕ) → ℕ
least_to zero f = f 0
least_to (suc n) f = min (least_to n f) (f (n + 1))

least_to-is : (n : ℕ) (f : ℕ → ℕ) → LeastOf (n + 1) f (least_to n f)
unfolding least_to
least_to-is zero f = least-one f (f 0) refl
least_to-is (suc n) f =
    let count : n + 1 + 1 ≡ suc n + 1 = omega arith in
    subst (λ m. LeastOf m f (min (least_to n f) (f (n + 1)))) count (least-more (n + 1) f (least_to n f) (f (n + 1)) (least_to-is n f) refl)

-- the least of numbers by two classes, each with 1 added for each register that changes
pub closed : ℕ → (ℕ → ℕ → ℕ) → ℕ → ℕ → ℕ
closed n direct c d = least_to n (λ x. least_to n (λ y. change c x + change d y + direct x y))

-- it is at most each of these numbers
closed_low : (n : ℕ) (direct : ℕ → ℕ → ℕ) (c d x y : ℕ) → x < n + 1 → y < n + 1 → closed n direct c d ≤ change c x + change d y + direct x y
unfolding closed
closed_low n direct c d x y under_x under_y =
    let line = (least_to-is n (λ z. least_to n (λ w. change c z + change d w + direct z w))).low x under_x in
    let here = (least_to-is n (λ w. change c x + change d w + direct x w)).low y under_y in
    omega (arith, line, here)

-- and one of them
record ChangedTo (n : ℕ) (direct : ℕ → ℕ → ℕ) (c d value : ℕ) : Type 0 where
  x : ℕ
  y : ℕ
  under_x : x < n + 1
  under_y : y < n + 1
  is : change c x + change d y + direct x y ≡ value

closed_is : (n : ℕ) (direct : ℕ → ℕ → ℕ) (c d : ℕ) → ChangedTo n direct c d (closed n direct c d)
unfolding closed
closed_is n direct c d =
    let line = least_to-is n (λ z. least_to n (λ w. change c z + change d w + direct z w)) in
    let here = least_to-is n (λ w. change c line.at + change d w + direct line.at w) in
    record { x = line.at; y = here.at; under_x = line.under; under_y = here.under; is = here.is ∙ line.is }

pub closed-below : (n : ℕ) (direct : ℕ → ℕ → ℕ) (c d : ℕ) → c < n + 1 → d < n + 1 → closed n direct c d ≤ direct c d
closed-below n direct c d under_c under_d =
    let low = closed_low n direct c d c d under_c under_d in
    let same_c = change_zero c in
    let same_d = change_zero d in
    omega (arith, low, same_c, same_d)

-- the change of one register changes it by at most 1
pub closed-c_line : (n : ℕ) (direct : ℕ → ℕ → ℕ) (c e d : ℕ) → closed n direct c d ≤ 1 + closed n direct e d
closed-c_line n direct c e d =
    let to = closed_is n direct e d in
    let low = closed_low n direct c d to.x to.y to.under_x to.under_y in
    let small = change_most c to.x in
    let is = to.is in
    omega (arith, low, small, is)

pub closed-d_line : (n : ℕ) (direct : ℕ → ℕ → ℕ) (c d e : ℕ) → closed n direct c d ≤ 1 + closed n direct c e
closed-d_line n direct c d e =
    let to = closed_is n direct c e in
    let low = closed_low n direct c d to.x to.y to.under_x to.under_y in
    let small = change_most d to.y in
    let is = to.is in
    omega (arith, low, small, is)

-- it is the number itself, or more than that after the change of a register
abbrev pub Changes : ℕ → (ℕ → ℕ → ℕ) → ℕ → ℕ → Type 0
Changes n direct c d = (closed n direct c d ≡ direct c d) ⊎ (((e : ℕ) × (e < n + 1) × (1 + closed n direct e d ≤ closed n direct c d)) ⊎ ((e : ℕ) × (e < n + 1) × (1 + closed n direct c e ≤ closed n direct c d)))

pub closed-from : (n : ℕ) (direct : ℕ → ℕ → ℕ) (c d : ℕ) → Changes n direct c d
closed-from n direct c d =
    let to = closed_is n direct c d in
    let is = to.is in
    elim (change_one c to.x) [
      | inl one ↦
          (let low = closed_low n direct to.x d to.x to.y to.under_x to.under_y in
          let none = change_zero to.x in
          inr (inl (to.x, to.under_x, omega (arith, is, low, none, one))))
      | inr same_c ↦ elim (change_one d to.y) [
        | inl one ↦
            (let low = closed_low n direct c to.y to.x to.y to.under_x to.under_y in
            let none = change_zero to.y in
            inr (inr (to.y, to.under_y, omega (arith, is, low, none, one))))
        | inr same_d ↦
            (let none_c = ap (change c) (sym same_c) ∙ change_zero c in
            let none_d = ap (change d) (sym same_d) ∙ change_zero d in
            let same = ap₂ direct same_c same_d in
            inl (omega (arith, is, none_c, none_d, same)))
      ]
    ]
