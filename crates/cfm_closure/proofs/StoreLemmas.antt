-- A closure stays what it is when a pair is put into the store, and when one is removed.
use Rattle.std.proofs.Common.{◌≡◌, ℕ, ◌<◌, List, length, Option, None, Some, Ok, Err, sym, ap, ◌∙◌, subst, inl, inr, Contains, get_or, set}
use Rattle.std.specs.Prelude.{IfSome, IsSome, is_some, Result}
use Rattle.std.proofs.lemmas.Bool.{cases_lt}
use Rattle.std.proofs.lemmas.List.{get_or_past}
use Rattle.pef_views.specs.Container.{container_of}
use Rattle.pef_views.specs.Header.{header_of}
use Rattle.pef_words.specs.Bytes.{number_at}
use Rattle.cfm_store.specs.Additions.{free_for, placed_at, with_put, without_pair}
use Rattle.cfm_closure.specs.Additions.{MayBeAdded, MayBeRemoved, NamesLibrary}
use Rattle.cfm_closure.specs.Closures.{Closed, closed_of}
use Rattle.cfm_closure.specs.Faults.{BindRefusal}
use Rattle.cfm_closure.specs.Fragments.{Fragment, fragment_of, with_container}
use Rattle.cfm_closure.specs.Kept.Caches.{MayTake}
use Rattle.cfm_closure.specs.Orders.{IsComplete}
use Rattle.cfm_store.specs.Stores.{Pair, free_place, no_pair, pair_of, place_of, shown}
use Rattle.cfm_closure.proofs.BoundSameLemmas.{are-same}
use Rattle.cfm_closure.specs.Targets.{target_of}
use Rattle.cfm_closure.proofs.ClosedLemmas.{closed-complete}
use Rattle.cfm_closure.proofs.HopFacts.{loader_at-is}
use Rattle.cfm_store.proofs.Laws.{IsFreeFor, free-place, free-shown, pair_of-with, placed-kept, placed-longer, placed-place, removed-kept, removed-longer, removed-place, set-pair}
use Rattle.cfm_closure.proofs.SameClosedLemmas.{closed-same, target-same}
use Rattle.cfm_closure.proofs.SameLemmas.{AreSame, fragment_of-same}

-- no fragment is read in a place without a pair
empty_read : (r : Result Fragment BindRefusal) (f : Fragment) (e : BindRefusal) → r ≡ Err e → r ≡ Ok f → ⊥
empty_read r f e wrong read = let both : Err e ≡ Ok f = sym wrong ∙ read in cc

unread : (pairs : List Pair) (p : ℕ) (f : Fragment) → pair_of pairs p ≡ no_pair → fragment_of pairs p ≡ Ok f → ⊥
unfolding fragment_of container_of header_of number_at
unread pairs p f none read = empty_read (fragment_of pairs p) f _ (ap (λ (x : Pair). with_container x.name (container_of x.bytes)) none) read

-- a fragment that is read is in a place of the store
pub read-inside : (pairs : List Pair) (p : ℕ) (f : Fragment) → fragment_of pairs p ≡ Ok f → p < length pairs
read-inside pairs p f read = elim (cases_lt p (length pairs)) [
  | inl under ↦ under
  | inr past ↦ absurd (unread pairs p f (ap shown (get_or_past pairs p no_pair past)) read)
]

module _ (pairs : List Pair) (n : Pair) where
  -- a pair is put into a free place
  module _ (p : ℕ) (free : IsFreeFor pairs n.name p) where
    filled-read : (q : ℕ) (f : Fragment) → fragment_of pairs q ≡ Ok f → pair_of (set pairs p n) q ≡ pair_of pairs q
    filled-read q f read =
        let none : pair_of pairs p ≡ no_pair = free-shown (get_or pairs p no_pair) free.free in
        set-pair pairs p n q (λ same. unread pairs q f (subst (λ (q : ℕ). pair_of pairs q ≡ no_pair) (sym same) none) read)

  -- with a new pair, fragments that are read stay in their places
  pub placed-read : (o : Option ℕ) → IfSome o (IsFreeFor pairs n.name) → (q : ℕ) (f : Fragment) → fragment_of pairs q ≡ Ok f → pair_of (placed_at pairs n o) q ≡ pair_of pairs q
  placed-read None free q f read = pair_of-with pairs n q (read-inside pairs q f read)
  placed-read (Some p) free q f read = filled-read p free q f read

  module _ (o : Option ℕ) (free : IfSome o (IsFreeFor pairs n.name)) where
    -- a complete order stays the same
    pub placed-same : (order : List ℕ) → IsComplete pairs order → MayBeAdded pairs order n.name → AreSame pairs (placed_at pairs n o) order
    placed-same order complete may =
        are-same pairs (placed_at pairs n o) (λ name. name ≡ n.name → IsSome (place_of pairs name)) (placed-place pairs n o free) (λ name q stays at. placed-kept pairs n o free name q at) order
        (λ p there. let m = complete.members p there in placed-read o free p m.fragment m.read)
        (λ p l f library there read entry same. elim may [
          | inl has ↦ ap (λ name. is_some (place_of pairs name)) same ∙ has
          | inr none ↦ absurd (none (record {
            fragment = p;
            member = there;
            loader = f.loader;
            read = loader_at-is pairs p f read;
            index = l;
            library = library;
            entry = entry;
            named = same;
          }))
        ])

    module _ (root : ℕ) (c : Closed) (inside : root < length pairs) (is : closed_of pairs root ≡ Ok c) (may : MayBeAdded pairs c.order n.name) where
      -- so a closure and the targets of its imports do too
      pub closed-placed : closed_of (placed_at pairs n o) root ≡ Ok (record c { pairs = placed_at pairs n o })
      closed-placed = closed-same pairs (placed_at pairs n o) root c inside (placed-longer pairs n o) is (placed-same c.order (closed-complete pairs root c is) may)

      pub target-placed : (p j : ℕ) → Contains c.order p → target_of (placed_at pairs n o) p j ≡ target_of pairs p j
      target-placed = target-same pairs (placed_at pairs n o) root c inside (placed-longer pairs n o) is (placed-same c.order (closed-complete pairs root c is) may)

  -- such a place is free for it
  pub may_take : (o : Option ℕ) → MayTake pairs n.name o → IfSome o (IsFreeFor pairs n.name)
  may_take o may = elim may [
    | inl end ↦ subst (λ (o : Option ℕ). IfSome o (IsFreeFor pairs n.name)) (sym end) tt
    | inr free ↦ subst (λ (o : Option ℕ). IfSome o (IsFreeFor pairs n.name)) (sym free) (free-place pairs n)
  ]

  pub new-same : (order : List ℕ) → IsComplete pairs order → MayBeAdded pairs order n.name → AreSame pairs (with_put pairs n) order
  unfolding with_put
  new-same = placed-same (free_for pairs n.name) (free-place pairs n)

  pub fragment-new : (p : ℕ) (f : Fragment) → fragment_of pairs p ≡ Ok f → fragment_of (with_put pairs n) p ≡ Ok f
  unfolding with_put
  fragment-new p f read = fragment_of-same pairs (placed_at pairs n (free_for pairs n.name)) p (placed-read (free_for pairs n.name) (free-place pairs n) p f read) ∙ read

-- a pair is removed
module _ (pairs : List Pair) (name : List ℕ) (p : ℕ) (first : place_of pairs name ≡ Some p) where
  pub removed-same : (order : List ℕ) → IsComplete pairs order → (Contains order p → ⊥) → (NamesLibrary pairs order name → ⊥) → AreSame pairs (without_pair pairs p) order
  removed-same order complete absent unnamed =
      are-same pairs (without_pair pairs p) (λ other. other ≡ name → ⊥) (removed-place pairs name p first) (removed-kept pairs name p first) order
      (λ q there. set-pair pairs p free_place q (λ same. absent (subst (Contains order) same there)))
      (λ q l f library there read entry same. unnamed (record {
        fragment = q;
        member = there;
        loader = f.loader;
        read = loader_at-is pairs q f read;
        index = l;
        library = library;
        entry = entry;
        named = same;
      }))

pub fragment-removed : (pairs : List Pair) (p q : ℕ) → (q ≡ p → ⊥) → fragment_of (without_pair pairs p) q ≡ fragment_of pairs q
fragment-removed pairs p q other = fragment_of-same pairs (without_pair pairs p) q (set-pair pairs p free_place q other)

module _ (pairs : List Pair) (name : List ℕ) (p : ℕ) where
  module _ (root : ℕ) (c : Closed) (inside : root < length pairs) (is : closed_of pairs root ≡ Ok c) (may : MayBeRemoved pairs c.order name p) where
    removed : AreSame pairs (without_pair pairs p) c.order
    removed = removed-same pairs name p may.first c.order (closed-complete pairs root c is) may.absent may.unnamed

    pub closed-removed : closed_of (without_pair pairs p) root ≡ Ok (record c { pairs = without_pair pairs p })
    closed-removed = closed-same pairs (without_pair pairs p) root c inside (removed-longer pairs name p may.first) is removed

    pub target-removed : (q j : ℕ) → Contains c.order q → target_of (without_pair pairs p) q j ≡ target_of pairs q j
    target-removed = target-same pairs (without_pair pairs p) root c inside (removed-longer pairs name p may.first) is removed
