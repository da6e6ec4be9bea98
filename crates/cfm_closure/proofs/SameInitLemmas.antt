-- Two stores that have the same fragments and bindings at the places of an order initialize it in the same order.
use Rattle.std.proofs.Common.{◌≡◌, ℕ, zero, suc, ◌≤◌, Bool, true, false, cond, not, List, [], ◌∷◌, length, Option, None, Some, Ok, refl, ap, ap₂, ◌∙◌, Contains}
use Rattle.std.specs.Prelude.{◌&&◌}
use Rattle.std.specs.Option.{is_none, option_and_then, option_map_or}
use Rattle.pef_loader.specs.Library.{Library}
use Rattle.pef_loader.specs.Loader.{Loaded, library_of}
use Rattle.pef_words.specs.Refusals.{first_among}
use Rattle.cfm_store.specs.Stores.{Pair}
use Rattle.cfm_closure.specs.Fragments.{library_count, loader_at}
use Rattle.cfm_closure.specs.Libraries.{library_at}
use Rattle.cfm_closure.specs.Initialization.{awaits, before_at, before_of, first_left, init_order_of, is_ready, next_ready, take_next, take_ready, taken_all}
use Rattle.cfm_closure.specs.Orders.{IsComplete}
use Rattle.cfm_closure.specs.Walk.{Walked, is_marked, joining, marking, unwalked}
use Rattle.cfm_closure.proofs.BoundLemmas.{library_at-is}
use Rattle.cfm_closure.proofs.OrderFacts.{bound-inside}
use Rattle.cfm_closure.proofs.SameLemmas.{Alike, Alike-joining, Alike-marking, AreSame, start-same}
use Rattle.cfm_closure.proofs.SameTargetLemmas.{contains_first, contains_later, library_at-same, loader_at-same}

module _ (pairs pairs' : List Pair) (order : List ℕ) (complete : IsComplete pairs order) (same : AreSame pairs pairs' order) where
  library_count-same : (p : ℕ) → Contains order p → library_count pairs' p ≡ library_count pairs p
  library_count-same p there = ap (λ o. option_map_or (λ (l : Loaded). l.header.library_count) o 0) (loader_at-same pairs pairs' p (same p there))

  before_of-same : (p l : ℕ) → Contains order p → before_of pairs' p l ≡ before_of pairs p l
  before_of-same p l there =
      ap (λ o. before_at pairs' p l (option_and_then (λ x. library_of x l) o)) (loader_at-same pairs pairs' p (same p there))
      ∙ at (option_and_then (λ x. library_of x l) (loader_at pairs p))
    where
      at : (o : Option Library) → before_at pairs' p l o ≡ before_at pairs p l o
      at None = refl
      at (Some library) = rw (library_at-same pairs pairs' p (same p there) l) refl

  -- a fragment that comes first is of the order
  before-inside : (p l q : ℕ) → Contains order p → before_of pairs p l ≡ Some q → Contains order q
  before-inside p l q there is = at (option_and_then (λ x. library_of x l) (loader_at pairs p)) is
    where
      if_before : (b : Bool) → cond b (library_at pairs p l) None ≡ Some q → Contains order q
      if_before true is = bound-inside pairs order p l (Some q) complete there (library_at-is pairs p l q is)
      if_before false is = absurd (cc)

      at : (o : Option Library) → before_at pairs p l o ≡ Some q → Contains order q
      at None is = absurd (cc)
      at (Some library) is = if_before _ is

  module _ (s s' : Walked) (a : Alike (length pairs) s s') where
    marks-same : (q : ℕ) → Contains order q → is_marked s' q ≡ is_marked s q
    marks-same q there = a.marks q (complete.members q there).place

    awaits-same : (p l : ℕ) → Contains order p → awaits pairs' s' p l ≡ awaits pairs s p l
    awaits-same p l there =
        ap (option_and_then (λ q. cond (is_marked s' q) None (Some l))) (before_of-same p l there)
        ∙ at (before_of pairs p l) refl
      where
        at : (o : Option ℕ) → before_of pairs p l ≡ o → option_and_then (λ q. cond (is_marked s' q) None (Some l)) o ≡ option_and_then (λ q. cond (is_marked s q) None (Some l)) o
        at None is = refl
        at (Some q) is = ap (λ m. cond m None (Some l)) (marks-same q (before-inside p l q there is))

    ready-same : (p : ℕ) → Contains order p → is_ready pairs' s' p ≡ is_ready pairs s p
    ready-same p there =
        ap (λ n. is_none (first_among (awaits pairs' s' p) 0 n)) (library_count-same p there)
        ∙ ap (λ answer. is_none (first_among answer 0 (library_count pairs p))) (λ i l. awaits-same p l there i)

    next_ready-same : (ps : List ℕ) → ((q : ℕ) → Contains ps q → Contains order q) → next_ready pairs' s' ps ≡ next_ready pairs s ps
    next_ready-same [] within = refl
    next_ready-same (p ∷ ps) within =
        let there = within p (contains_first p ps) in
        ap₂ (λ m r. cond (not m && r) (Some p) (next_ready pairs' s' ps)) (marks-same p there) (ready-same p there)
        ∙ ap (cond (not (is_marked s p) && is_ready pairs s p) (Some p)) (next_ready-same ps (λ q within_later. within q (contains_later p ps q within_later)))

    first_left-same : (ps : List ℕ) → ((q : ℕ) → Contains ps q → Contains order q) → first_left s' ps ≡ first_left s ps
    first_left-same [] within = refl
    first_left-same (p ∷ ps) within =
        ap (λ m. cond m (first_left s' ps) (Some p)) (marks-same p (within p (contains_first p ps)))
        ∙ ap (λ o. cond (is_marked s p) o (Some p)) (first_left-same ps (λ q later. within q (contains_later p ps q later)))

    taken_all-same : (init : List ℕ) → taken_all pairs s (first_left s order) ≡ Ok init → taken_all pairs' s' (first_left s' order) ≡ Ok init
    taken_all-same init is = ap (taken_all pairs' s') (first_left-same order (λ q there. there)) ∙ at (first_left s order) is
      where
        at : (o : Option ℕ) → taken_all pairs s o ≡ Ok init → taken_all pairs' s' o ≡ Ok init
        at None is = ap Ok a.order ∙ is
        at (Some p) is = absurd (cc)

  take_ready-same : (n : ℕ) (s s' : Walked) (init : List ℕ) → Alike (length pairs) s s' → take_ready n pairs order s ≡ Ok init → take_ready n pairs' order s' ≡ Ok init
  unfolding take_ready
  take_ready-same zero s s' init a is = taken_all-same s s' a init is
  take_ready-same (suc n) s s' init a is =
      ap (take_next (take_ready n pairs' order) pairs' order s') (next_ready-same s s' a order (λ q there. there))
      ∙ on (next_ready pairs s order) is (take_ready-same n)
    where
      on : (o : Option ℕ) → take_next (take_ready n pairs order) pairs order s o ≡ Ok init
          → ((s s' : Walked) (init : List ℕ) → Alike (length pairs) s s' → take_ready n pairs order s ≡ Ok init → take_ready n pairs' order s' ≡ Ok init)
          → take_next (take_ready n pairs' order) pairs' order s' o ≡ Ok init
      on None is deeper = taken_all-same s s' a init is
      on (Some p) is deeper =
          deeper (joining p (marking p s)) (joining p (marking p s')) init (Alike-joining (length pairs) p (marking p s) (marking p s') (Alike-marking (length pairs) p s s' a)) is

  pub init_order-same : (init : List ℕ) → length pairs ≤ length pairs' → init_order_of pairs order ≡ Ok init → init_order_of pairs' order ≡ Ok init
  unfolding init_order_of
  init_order-same init more is = take_ready-same (length order) (unwalked pairs) (unwalked pairs') init (start-same pairs pairs' more) is
