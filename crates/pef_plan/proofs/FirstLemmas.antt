-- The first of a list with a property.
use Rattle.std.proofs.Common.{◌≡◌, ℕ, zero, suc, ◌+◌, ◌<◌, ◌⊎◌, inl, inr, List, [], ◌∷◌, ◌++◌, length, refl, sym, ◌∙◌, ap, subst, arith}
use Rattle.std.specs.Prelude.{slice_index_or}
use Rattle.pef_reloc.specs.declared.instr.Instr.{Instr}
use Rattle.pef_reloc.specs.declared.instr.Instr.TheVariants.{SmSetSectC, SmSetSectD}
use Rattle.pef_reloc.specs.Limits.{most_sections}
use Rattle.pef_plan.specs.Kept.Firsts.{NoneOf}
use Rattle.pef_plan.specs.Planned.{FirstOf, counted, sets_in_order}

-- there is only one
pub first_one : (P : Instr → Type 0) (xs : List Instr) (x y : Instr) → FirstOf P xs x → FirstOf P xs y → x ≡ y
first_one P [] x y first second = absurd first
first_one P (z ∷ xs) x y (inl here) (inl there) = sym here.0 ∙ there.0
first_one P (z ∷ xs) x y (inl here) (inr later) = absurd (later.0 here.1)
first_one P (z ∷ xs) x y (inr later) (inl there) = absurd (later.0 there.1)
first_one P (z ∷ xs) x y (inr later) (inr after) = first_one P xs x y later.1 after.1

-- with a property that the same instructions have
pub first_same : (P Q : Instr → Type 0) (xs : List Instr) (x : Instr) → ((y : Instr) → P y → Q y) → ((y : Instr) → Q y → P y) → FirstOf P xs x → FirstOf Q xs x
first_same P Q [] x to from first = absurd first
first_same P Q (y ∷ xs) x to from (inl here) = inl (here.0, to y here.1)
first_same P Q (y ∷ xs) x to from (inr later) = inr ((λ q. later.0 (from y q)), first_same P Q xs x to from later.1)

-- in a list before others, and in one after others
pub first_before : (P : Instr → Type 0) (xs ys : List Instr) (x : Instr) → FirstOf P xs x → FirstOf P (xs ++ ys) x
first_before P [] ys x first = absurd first
first_before P (y ∷ xs) ys x (inl here) = inl here
first_before P (y ∷ xs) ys x (inr later) = inr (later.0, first_before P xs ys x later.1)

pub first_after : (P : Instr → Type 0) (xs ys : List Instr) (x : Instr) → NoneOf P xs → FirstOf P ys x → FirstOf P (xs ++ ys) x
first_after P [] ys x none first = first
first_after P (y ∷ xs) ys x none first = inr (none.0, first_after P xs ys x none.1 first)

pub none_append : (P : Instr → Type 0) (xs ys : List Instr) → NoneOf P xs → NoneOf P ys → NoneOf P (xs ++ ys)
none_append P [] ys none others = others
none_append P (y ∷ xs) ys none others = (none.0, none_append P xs ys none.1 others)

pub none_before : (P : Instr → Type 0) (xs ys : List Instr) → NoneOf P (xs ++ ys) → NoneOf P xs
none_before P [] ys none = tt
none_before P (y ∷ xs) ys none = (none.0, none_before P xs ys none.1)

pub none_after : (P : Instr → Type 0) (xs ys : List Instr) → NoneOf P (xs ++ ys) → NoneOf P ys
none_after P [] ys none = none
none_after P (y ∷ xs) ys none = none_after P xs ys none.1

first_parts : (P : Instr → Type 0) (xs ys : List Instr) (x : Instr) → FirstOf P (xs ++ ys) x → FirstOf P xs x ⊎ (NoneOf P xs × FirstOf P ys x)
first_parts P [] ys x first = inr (tt, first)
first_parts P (y ∷ xs) ys x (inl here) = inl (inl here)
first_parts P (y ∷ xs) ys x (inr later) = elim (first_parts P xs ys x later.1) [
  | inl before ↦ inl (inr (later.0, before))
  | inr after ↦ inr ((later.0, after.0), after.1)
]

-- the instructions with counts
pub none_counted : (P : Instr → Type 0) (make : ℕ → Instr) (from n : ℕ) → ((j : ℕ) → j < n → P (make (from + j)) → ⊥) → NoneOf P (counted make from n)
unfolding counted
none_counted P make from zero none = tt
none_counted P make from (suc n) none =
    let here : from + 0 ≡ from = omega arith in (
      (λ p. none 0 (omega arith) (subst (λ (m : ℕ). P (make m)) (sym here) p)),
      none_counted P make (from + 1) n (λ j under p.
          let count : from + suc j ≡ from + 1 + j = omega arith in
          none (suc j) (omega (arith, under)) (subst (λ (m : ℕ). P (make m)) (sym count) p)),
    )

pub first_counted : (P : Instr → Type 0) (make : ℕ → Instr) (from n more : ℕ) → more < n → ((j : ℕ) → j < more → P (make (from + j)) → ⊥) → P (make (from + more)) → FirstOf P (counted make from n) (make (from + more))
unfolding counted
first_counted P make from zero more under none here = absurd (omega (arith, under))
first_counted P make from (suc n) zero under none here =
    let same : from ≡ from + 0 = omega arith in
    inl (ap make same, subst (λ (m : ℕ). P (make m)) (sym same) here)
first_counted P make from (suc n) (suc more) under none here =
    let none_here : from + 0 ≡ from = omega arith in
    let end : from + 1 + more ≡ from + suc more = omega arith in
    inr (
      (λ p. none 0 (omega arith) (subst (λ (m : ℕ). P (make m)) (sym none_here) p)),
      subst (λ (m : ℕ). FirstOf P (counted make (from + 1) n) (make m)) end
          (first_counted P make (from + 1) n more (omega (arith, under))
          (λ j low p.
          let count : from + suc j ≡ from + 1 + j = omega arith in
          none (suc j) (omega (arith, low)) (subst (λ (m : ℕ). P (make m)) (sym count) p))
          (subst (λ (m : ℕ). P (make m)) (sym end) here)),
    )

-- the settings of registers, up to that of a class
pub first_set_c : (P : Instr → Type 0) (rs : List ℕ) (class : ℕ) → class < length rs + 1
    → ((e : ℕ) → e < class → P (SmSetSectC (slice_index_or rs e most_sections)) → ⊥)
    → ((e : ℕ) → e < class → P (SmSetSectD (slice_index_or rs e most_sections)) → ⊥)
    → P (SmSetSectC (slice_index_or rs class most_sections)) → FirstOf P (sets_in_order rs) (SmSetSectC (slice_index_or rs class most_sections))
first_set_c P [] zero under by_c by_d here = inl (refl, here)
first_set_c P [] (suc class) under by_c by_d here = absurd (omega (arith, under))
first_set_c P (k ∷ rs) zero under by_c by_d here = inl (refl, here)
first_set_c P (k ∷ rs) (suc class) under by_c by_d here =
    inr (
      by_c 0 (omega arith),
      inr (
        by_d 0 (omega arith),
        first_set_c P rs class (omega (arith, under)) (λ e low. by_c (suc e) (omega (arith, low))) (λ e low. by_d (suc e) (omega (arith, low))) here,
      ),
    )

pub first_set_d : (P : Instr → Type 0) (rs : List ℕ) (class : ℕ) → class < length rs + 1
    → ((e : ℕ) → e < class + 1 → P (SmSetSectC (slice_index_or rs e most_sections)) → ⊥)
    → ((e : ℕ) → e < class → P (SmSetSectD (slice_index_or rs e most_sections)) → ⊥)
    → P (SmSetSectD (slice_index_or rs class most_sections)) → FirstOf P (sets_in_order rs) (SmSetSectD (slice_index_or rs class most_sections))
first_set_d P [] zero under by_c by_d here = inr (by_c 0 (omega arith), inl (refl, here))
first_set_d P [] (suc class) under by_c by_d here = absurd (omega (arith, under))
first_set_d P (k ∷ rs) zero under by_c by_d here = inr (by_c 0 (omega arith), inl (refl, here))
first_set_d P (k ∷ rs) (suc class) under by_c by_d here =
    inr (
      by_c 0 (omega arith),
      inr (
        by_d 0 (omega arith),
        first_set_d P rs class (omega (arith, under)) (λ e low. by_c (suc e) (omega (arith, low))) (λ e low. by_d (suc e) (omega (arith, low))) here,
      ),
    )

-- a list without some instructions that lack the property
pub record Thin (P : Instr → Type 0) (xs ys : List Instr) : Type 0 where
  pub first : (x : Instr) → FirstOf P xs x → FirstOf P ys x
  pub none : NoneOf P xs → NoneOf P ys

pub thin_same : (P : Instr → Type 0) (xs : List Instr) → Thin P xs xs
thin_same P xs = record { first = λ x first. first; none = λ none. none }

pub thin_more : (P : Instr → Type 0) (xs ys zs : List Instr) → NoneOf P zs → Thin P xs ys → Thin P xs (ys ++ zs)
thin_more P xs ys zs none thin = record {
  first = λ x first. first_before P ys zs x (thin.first x first);
  none = λ others. none_append P ys zs (thin.none others) none;
}

pub thin_append : (P : Instr → Type 0) (xs ys zs : List Instr) → Thin P xs ys → Thin P (xs ++ zs) (ys ++ zs)
thin_append P xs ys zs thin = record {
  first = λ x first.
      elim (first_parts P xs zs x first) [
        | inl before ↦ first_before P ys zs x (thin.first x before)
        | inr after ↦ first_after P ys zs x (thin.none after.0) after.1
      ];
  none = λ none. none_append P ys zs (thin.none (none_before P xs zs none)) (none_after P xs zs none);
}
