-- Rows of targets, and the targets noted in them.
use Rattle.std.proofs.Common.{◌≡◌, ◌≢◌, ℕ, ◌+◌, ◌<◌, List, [], length, drop, Option, None, Some, Ok, refl, sym, ap, ◌∙◌, subst, get_or, set, inl, inr, arith, Contains}
use Rattle.std.specs.Prelude.{IsSome, Result}
use Rattle.std.specs.List.{AllByRecursion}
use Rattle.std.specs.Option.{option_or}
use Rattle.std.proofs.lemmas.Bool.Decides.{eqb_tells}
use Rattle.std.proofs.lemmas.List.{at_drop_more, get_or-set_same, get_or-set_other, get_or_default}
use Rattle.pef_words.proofs.Laws.Lists.{all-at}
use Rattle.cfm_store.specs.Stores.{Pair}
use Rattle.cfm_closure.specs.Faults.{BindRefusal}
use Rattle.cfm_closure.specs.declared.targets.Target.{Target}
use Rattle.cfm_closure.specs.Closures.{first_refused, imports_refusal}
use Rattle.cfm_closure.specs.Kept.Targets.{AreKnown, AreRight, IsKnown, IsOnWay, IsResolved, Keeps, KeepsKnown, Ordered, Row, Rows, known_at, led_to}

-- the rows with the target of an import noted
abbrev pub noted : Rows → ℕ → ℕ → Option Target → Rows
noted rows p j t = set rows p (set (get_or rows p []) j (Some t))

module _ (rows : Rows) (p j : ℕ) (t : Option Target) (place : p < length rows) (inside : j < length (get_or rows p [])) where
  row-here : get_or (noted rows p j t) p [] ≡ set (get_or rows p []) j (Some t)
  row-here = get_or-set_same rows p (set (get_or rows p []) j (Some t)) [] place

  row-other : (q : ℕ) → q ≢ p → get_or (noted rows p j t) q [] ≡ get_or rows q []
  row-other q other = get_or-set_other rows p q (set (get_or rows p []) j (Some t)) [] other

  -- a noted target is known
  known-here : known_at (noted rows p j t) p j ≡ Some t
  known-here = ap (λ r. get_or r j None) row-here ∙ get_or-set_same (get_or rows p []) j (Some t) None inside

  pub known-other : (q k : ℕ) → (q ≡ p → k ≢ j) → known_at (noted rows p j t) q k ≡ known_at rows q k
  known-other q k other = elim (eqb_tells q p) [
    | inl same ↦ (let P : ℕ → Type 0 = λ q. known_at (noted rows p j t) q k ≡ known_at rows q k in
        subst P (sym same.1) (ap (λ r. get_or r k None) row-here ∙ get_or-set_other (get_or rows p []) j k (Some t) None (other same.1)))
    | inr apart ↦ ap (λ r. get_or r k None) (row-other q apart.1)
  ]

  pub known-noted : IsKnown (noted rows p j t) p j
  known-noted = rw known-here refl

  pub kept-noted : KeepsKnown rows (noted rows p j t)
  kept-noted q k known = elim (eqb_tells q p) [
    | inl same ↦ elim (eqb_tells k j) [
      | inl same' ↦ (let P : ℕ → Type 0 = λ q. IsKnown (noted rows p j t) q k in
          let Q : ℕ → Type 0 = λ k. IsKnown (noted rows p j t) p k in
          subst P (sym same.1) (subst Q (sym same'.1) known-noted))
      | inr other' ↦ subst IsSome (sym (known-other q k (λ e. other'.1))) known
    ]
    | inr other ↦ subst IsSome (sym (known-other q k (λ e. absurd (other.1 e)))) known
  ]

-- with a right one noted, all that are known are still right
pub right-noted : (pairs : List Pair) (p j : ℕ) (row : Row) (t : Option Target) → AreRight pairs p row → j < length row → led_to pairs (p, j) ≡ Some (Ok t) → AreRight pairs p (set row j (Some t))
right-noted pairs p j row t right inside is k u known = elim (eqb_tells k j) [
  | inl same ↦ (
      let P : ℕ → Type 0 = λ k. get_or (set row j (Some t)) k None ≡ Some u in
      let Q : ℕ → Type 0 = λ k. led_to pairs (p, k) ≡ Some (Ok u) in
      let e : Some t ≡ Some u = sym (get_or-set_same row j (Some t) None inside) ∙ subst P same.1 known in
      let f : t ≡ u = cc in
      subst Q (sym same.1) (is ∙ ap (λ t. Some (Ok t)) f))
  | inr other ↦ right k u (sym (get_or-set_other row j k (Some t) None other.1) ∙ known)
]

-- known targets stay known at each step
pub keeps-none : (o : Ordered) → Keeps o o
keeps-none o = record { same = refl; known = λ p j known. known }

pub keeps-more : (a b c : Ordered) → Keeps a b → Keeps b c → Keeps a c
keeps-more a b c first second = record {
  same = second.same ∙ ap (λ (b : Ordered). record b { rows = c.rows }) first.same;
  known = λ p j known. second.known p j (first.known p j known);
}

-- one import more of a way is known
pub are_known-more : (rows rows' : Rows) (way : List (ℕ × ℕ)) (n : ℕ) → KeepsKnown rows rows' → AreKnown rows way n → IsKnown rows' (get_or way n (0, 0)).0 (get_or way n (0, 0)).1 → AreKnown rows' way (n + 1)
are_known-more rows rows' way n keeps known next i below = elim (eqb_tells i n) [
  | inl same ↦ subst (λ (i : ℕ). IsKnown rows' (get_or way i (0, 0)).0 (get_or way i (0, 0)).1) (sym same.1) next
  | inr other ↦ keeps (get_or way i (0, 0)).0 (get_or way i (0, 0)).1 (known i (omega (arith, other.1)))
]

-- an import of a way is still one
pub on_way-still : (old new : Ordered) (end : Option (Result (Option Target) BindRefusal)) (way : List (ℕ × ℕ)) (i : ℕ) → Keeps old new → AllByRecursion (IsOnWay old.pairs old.order end) way → i < length way
    → IsOnWay new.pairs new.order end (get_or way i (0, 0))
on_way-still old new end way i keeps all under =
    subst (λ (o : Ordered). IsOnWay o.pairs o.order end (get_or way i (0, 0))) (sym keeps.same) (all-at (IsOnWay old.pairs old.order end) way i (0, 0) all under)

pub first_refused-next : (pairs : List Pair) (order : List ℕ) (i : ℕ) → i < length order → imports_refusal pairs (get_or order i 0) ≡ None → first_refused pairs (drop (i + 1) order) ≡ first_refused pairs (drop i order)
first_refused-next pairs order i under is = sym (at_drop_more (first_refused pairs) order i 0 under ∙ ap (λ o. option_or o (first_refused pairs (drop (i + 1) order))) is)

-- one more fragment is resolved
pub resolved-more : (pairs : List Pair) (order : List ℕ) (old new : Rows) (i : ℕ) → KeepsKnown old new → ((k : ℕ) → k < i → IsResolved pairs old (get_or order k 0)) → IsResolved pairs new (get_or order i 0)
    → (k : ℕ) → k < i + 1 → IsResolved pairs new (get_or order k 0)
resolved-more pairs order old new i kept before here k under = elim (eqb_tells k i) [
  | inl same ↦ (let P : ℕ → Type 0 = λ k. IsResolved pairs new (get_or order k 0) in subst P (sym same.1) here)
  | inr other ↦ (let apart = other.1 in λ j below. kept (get_or order k 0) j (before k (omega arith) j below))
]

-- if all of an order are resolved, each of its fragments is
pub resolved-all : (pairs : List Pair) (order : List ℕ) (rows : Rows) → ((k : ℕ) → k < length order → IsResolved pairs rows (get_or order k 0)) → (p : ℕ) → Contains order p → IsResolved pairs rows p
resolved-all pairs order rows all p there = subst (IsResolved pairs rows) (get_or_default order there.0 0 p there.1 ∙ there.2) (all there.0 there.1)
