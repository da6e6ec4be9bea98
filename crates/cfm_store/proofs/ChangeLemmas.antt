-- What stays in a store when a pair is put into it, and when one is removed.
use Rattle.std.proofs.Common.{◌≡◌, ℕ, ◌<◌, ◌≤◌, Bool, true, false, List, [], ◌∷◌, length, Option, None, Some, cond, refl, sym, ap, ◌∙◌, subst, inl, inr, arith, get_or, set}
use Rattle.std.specs.Prelude.{IfSome, IsSome, is_some}
use Rattle.std.proofs.lemmas.Bool.Decides.{eqb_tells}
use Rattle.std.proofs.lemmas.List.{get_or-set_other, get_or_append_left, length-set, length_push}
use Rattle.cfm_store.specs.Additions.{free_for, free_from, placed_at, with_put, with_pair, without_pair}
use Rattle.cfm_store.specs.Stores.{Pair, free_place, no_pair, pair_of, place_of, shown}
use Rattle.cfm_store.proofs.PlaceLemmas.{IsFreeFor, free-unnamed, free_for-is, named-name, other-unnamed, place_of-below, place_of-met, place_of-named, place_of-removed, place_of-set, place_of-taken, place_of-with}

-- the other places keep their pairs
pub set-pair : (pairs : List Pair) (p : ℕ) (x : Pair) (q : ℕ) → (q ≡ p → ⊥) → pair_of (set pairs p x) q ≡ pair_of pairs q
set-pair pairs p x q other = elim (eqb_tells q p) [
  | inl same ↦ absurd (other same.1)
  | inr apart ↦ ap shown (get_or-set_other pairs p q x no_pair apart.1)
]

module _ (pairs : List Pair) (n : Pair) where
  -- the pairs before a new one stay in their places
  pub pair_of-with : (p : ℕ) → p < length pairs → pair_of (with_pair pairs n) p ≡ pair_of pairs p
  pair_of-with p inside = ap shown (get_or_append_left pairs (n ∷ []) no_pair p inside)

  -- a pair is put into a free place
  module _ (p : ℕ) (free : IsFreeFor pairs n.name p) where
    filled-kept : (name : List ℕ) (q : ℕ) → place_of pairs name ≡ Some q → pair_of (set pairs p n) q ≡ pair_of pairs q
    filled-kept name q is = set-pair pairs p n q (λ same. place_of-taken pairs name q is (subst (λ (q : ℕ). (get_or pairs q no_pair).free ≡ true) (sym same) free.free))

    filled-place : (name : List ℕ) → (name ≡ n.name → IsSome (place_of pairs name)) → place_of (set pairs p n) name ≡ place_of pairs name
    filled-place name known =
        place_of-set pairs p n name (free-unnamed (get_or pairs p no_pair) name free.free)
        (other-unnamed n name (λ same. let none : false ≡ true = sym (ap is_some (ap (place_of pairs) same ∙ free.none)) ∙ known same in cc))

  -- a pair is added in a free place, or at the end
  pub placed-longer : (o : Option ℕ) → length pairs ≤ length (placed_at pairs n o)
  placed-longer None = let e = length_push pairs n in omega arith
  placed-longer (Some p) = let e = length-set pairs p n in omega arith

  -- the names that there are stay in their places, with their pairs
  pub placed-kept : (o : Option ℕ) → IfSome o (IsFreeFor pairs n.name) → (name : List ℕ) (q : ℕ) → place_of pairs name ≡ Some q → pair_of (placed_at pairs n o) q ≡ pair_of pairs q
  placed-kept None free name q at = pair_of-with q (place_of-below pairs name q at)
  placed-kept (Some p) free name q at = filled-kept p free name q at

  pub placed-place : (o : Option ℕ) → IfSome o (IsFreeFor pairs n.name) → (name : List ℕ) → (name ≡ n.name → IsSome (place_of pairs name)) → place_of (placed_at pairs n o) name ≡ place_of pairs name
  placed-place None free name known = place_of-with pairs n name known
  placed-place (Some p) free name known = filled-place p free name known

  -- the place for it
  pub free-place : IfSome (free_for pairs n.name) (IsFreeFor pairs n.name)
  free-place = by (free_for pairs n.name) refl
    where
      by : (o : Option ℕ) → free_for pairs n.name ≡ o → IfSome o (IsFreeFor pairs n.name)
      by None is = tt
      by (Some p) is = free_for-is pairs n.name p is

  pub new-longer : length pairs ≤ length (with_put pairs n)
  unfolding with_put
  new-longer = placed-longer (free_for pairs n.name)

  pub place_of-new : (name : List ℕ) (p : ℕ) → place_of pairs name ≡ Some p → place_of (with_put pairs n) name ≡ Some p
  unfolding with_put
  place_of-new name p is = placed-place (free_for pairs n.name) free-place name (λ same. ap is_some is) ∙ is

  -- without a free place, the end
  pub new-end : free_from 0 pairs ≡ None → with_put pairs n ≡ with_pair pairs n
  unfolding with_put free_for
  new-end none = ap (placed_at pairs n) (never (is_some (place_of pairs n.name)) (free_from 0 pairs) none)
    where
      never : (b : Bool) (o : Option ℕ) → o ≡ None → cond b None o ≡ None
      never true o is = refl
      never false o is = is

-- a pair is removed
module _ (pairs : List Pair) (name : List ℕ) (p : ℕ) (first : place_of pairs name ≡ Some p) where
  pub removed-kept : (other : List ℕ) (q : ℕ) → (other ≡ name → ⊥) → place_of pairs other ≡ Some q → pair_of (without_pair pairs p) q ≡ pair_of pairs q
  removed-kept other q apart is =
      set-pair pairs p free_place q
      (λ same. apart (sym (place_of-named pairs other q is) ∙ ap (λ (q : ℕ). (pair_of pairs q).name) same ∙ place_of-named pairs name p first))

  pub removed-place : (other : List ℕ) → (other ≡ name → ⊥) → place_of (without_pair pairs p) other ≡ place_of pairs other
  removed-place other apart = place_of-removed pairs p other (λ same. apart (same ∙ sym (named-name (get_or pairs p no_pair) name (place_of-met pairs name p first))))

  pub removed-longer : length pairs ≤ length (without_pair pairs p)
  removed-longer = let e = length-set pairs p free_place in omega arith
