-- The exports of some fragments, numbered one after the other.
use Rattle.std.proofs.Common.{◌≡◌, ◌≢◌, ℕ, zero, suc, ◌+◌, ◌<◌, ◌⊎◌, ◌==◌, cond, List, [], ◌∷◌, sym, ap, ◌∙◌, subst, inl, inr, arith, Contains}
use Rattle.std.proofs.lemmas.Bool.{eq-eqb, ne_eqb}
use Rattle.std.proofs.lemmas.Bool.Decides.{eqb_tells}
use Rattle.std.proofs.lemmas.List.Sums.{sum_by-cons}
use Rattle.cfm_store.specs.Stores.{Pair}
use Rattle.cfm_closure.specs.Fragments.{export_count}
use Rattle.cfm_closure.specs.Targets.{exports_among}

-- the number of export e of fragment q
abbrev pub rank : List Pair → List ℕ → ℕ × ℕ → ℕ
rank pairs [] x = 0
rank pairs (p ∷ ps) x = cond (p == x.0) x.1 (export_count pairs p + rank pairs ps x)

-- an export of one of the fragments
pub record IsAmong (pairs : List Pair) (ps : List ℕ) (x : ℕ × ℕ) : Type 0 where
  pub fragment : Contains ps x.0
  pub below : x.1 < export_count pairs x.0

pub contains_cases : (p : ℕ) (ps : List ℕ) (q : ℕ) → Contains (p ∷ ps) q → (p ≡ q) ⊎ Contains ps q
contains_cases p ps q (zero, under, is) = inl is
contains_cases p ps q (suc k, under, is) = inr (k, omega arith, is)

module _ (pairs : List Pair) where
  pub exports-cons : (p : ℕ) (ps : List ℕ) → exports_among pairs (p ∷ ps) ≡ export_count pairs p + exports_among pairs ps
  exports-cons p ps = sum_by-cons (export_count pairs) p ps

  rank-here : (p : ℕ) (ps : List ℕ) (x : ℕ × ℕ) → p ≡ x.0 → rank pairs (p ∷ ps) x ≡ x.1
  rank-here p ps x same = ap (λ b. cond b x.1 (export_count pairs p + rank pairs ps x)) (eq-eqb p x.0 same)

  rank-later : (p : ℕ) (ps : List ℕ) (x : ℕ × ℕ) → p ≢ x.0 → rank pairs (p ∷ ps) x ≡ export_count pairs p + rank pairs ps x
  rank-later p ps x other = ap (λ b. cond b x.1 (export_count pairs p + rank pairs ps x)) (ne_eqb p x.0 other)

  -- the others are among the later fragments
  among-later : (p : ℕ) (ps : List ℕ) (x : ℕ × ℕ) → p ≢ x.0 → IsAmong pairs (p ∷ ps) x → IsAmong pairs ps x
  among-later p ps x other is = record {
    fragment = elim (contains_cases p ps x.0 is.fragment) [ inl same ↦ absurd (other same) | inr later ↦ later ];
    below = is.below;
  }

  among-here : (p : ℕ) (ps : List ℕ) (x : ℕ × ℕ) → p ≡ x.0 → IsAmong pairs (p ∷ ps) x → x.1 < export_count pairs p
  among-here p ps x same is = let P : ℕ → Type 0 = λ p. x.1 < export_count pairs p in subst P (sym same) is.below

  -- each number is below the count of all exports
  pub rank-below : (ps : List ℕ) (x : ℕ × ℕ) → IsAmong pairs ps x → rank pairs ps x < exports_among pairs ps
  rank-below [] x is = absurd (let h = is.fragment.1 in omega arith)
  rank-below (p ∷ ps) x is = elim (eqb_tells p x.0) [
    | inl same ↦ (let a = rank-here p ps x same.1 in let b = exports-cons p ps in let h = among-here p ps x same.1 is in omega arith)
    | inr other ↦ (let a = rank-later p ps x other.1 in let b = exports-cons p ps in let h = rank-below ps x (among-later p ps x other.1 is) in omega arith)
  ]

  -- and no two exports have the same
  pub rank-same : (ps : List ℕ) (x y : ℕ × ℕ) → IsAmong pairs ps x → IsAmong pairs ps y → rank pairs ps x ≡ rank pairs ps y → x ≡ y
  rank-same [] x y is is' same = absurd (let h = is.fragment.1 in omega arith)
  rank-same (p ∷ ps) x y is is' same = elim (eqb_tells p x.0) [
    | inl here ↦ elim (eqb_tells p y.0) [
      | inl here' ↦ (let e : x.0 ≡ y.0 = sym here.1 ∙ here'.1 in
          let f : x.1 ≡ y.1 = sym (rank-here p ps x here.1) ∙ same ∙ rank-here p ps y here'.1 in
          pair_same x y e f)
      | inr other' ↦ absurd (let a = rank-here p ps x here.1 in let b = rank-later p ps y other'.1 in let h = among-here p ps x here.1 is in omega arith)
    ]
    | inr other ↦ elim (eqb_tells p y.0) [
      | inl here' ↦ absurd (let a = rank-later p ps x other.1 in let b = rank-here p ps y here'.1 in let h = among-here p ps y here'.1 is' in omega arith)
      | inr other' ↦ (let a = rank-later p ps x other.1 in let b = rank-later p ps y other'.1 in
          let e : rank pairs ps x ≡ rank pairs ps y = omega arith in
          rank-same ps x y (among-later p ps x other.1 is) (among-later p ps y other'.1 is') e)
    ]
  ]
    where
      pair_same : (x y : ℕ × ℕ) → x.0 ≡ y.0 → x.1 ≡ y.1 → x ≡ y
      pair_same x y e f = λ i. (e i, f i)
