-- Fragments that are taken for initialization.
use Rattle.std.proofs.Common.{◌≡◌, ℕ, zero, suc, ◌+◌, ◌-◌, ◌<◌, ◌≤◌, ◌==◌, Bool, true, false, cond, not, List, length, drop, Option, None, Some, refl, sym, ap, ◌∙◌, subst, get_or, set, inl, inr, arith, Contains}
use Rattle.std.specs.Prelude.{◌&&◌, replicate}
use Rattle.std.specs.Option.{is_none, is_some, option_and_then, unwrap_or}
use Rattle.std.proofs.lemmas.Bool.{cases_lt, eq-eqb, ne_eqb}
use Rattle.std.proofs.lemmas.Bool.Decides.{eqb_tells}
use Rattle.std.proofs.lemmas.List.{at_drop_more, get_or-replicate, get_or-set_other, get_or-set_same, get_or_past, length-replicate, length-set}
use Rattle.std.proofs.lemmas.List.Elements.{Contains-get_or}
use Rattle.pef_words.proofs.Laws.Refusals.{first_among-at, first_among-none}
use Rattle.cfm_store.specs.Stores.{Pair}
use Rattle.cfm_closure.specs.Fragments.{library_count}
use Rattle.cfm_closure.specs.Orders.{IsComplete}
use Rattle.cfm_closure.specs.Walk.{Walked, is_marked, joining, marking, unwalked}
use Rattle.cfm_closure.specs.declared.init_order.InitState.{InitState}
use Rattle.cfm_closure.specs.Initialization.{awaited, awaits, before_of, first_left, init_order_of, is_ready, next_ready, take_next, take_ready, taken_all}
use Rattle.cfm_closure.specs.Kept.Taken.{IsFresh, IsInitState, taken_of}

some_of : {A : Type 0} (o : Option A) → is_some o ≡ true → (x : A) × (o ≡ Some x)
some_of None is = absurd (cc)
some_of (Some x) is = (x, refl)

module _ (pairs : List Pair) (s : Walked) (p : ℕ) where
  -- an entry waits for a fragment that wasn't taken
  pub awaits-some : (l q : ℕ) (m : Bool) → before_of pairs p l ≡ Some q → is_marked s q ≡ m → not m ≡ is_some (awaits pairs s p l)
  awaits-some l q m is met = sym (ap (λ o. is_some (option_and_then (λ q. cond (is_marked s q) None (Some l)) o)) is ∙ ap (λ m. is_some (cond {A = Option ℕ} m None (Some l))) met ∙ by m)
    where
      by : (m : Bool) → is_some (cond {A = Option ℕ} m None (Some l)) ≡ not m
      by true = refl
      by false = refl

  -- if no entry waits, the fragment is ready
  pub ready-all : ((k : ℕ) → k < library_count pairs p → awaits pairs s p k ≡ None) → is_ready pairs s p ≡ (library_count pairs p == library_count pairs p)
  ready-all none =
      ap is_none (first_among-none (awaits pairs s p) 0 (library_count pairs p) (λ k low high. none k (omega arith)))
      ∙ sym (eq-eqb (library_count pairs p) (library_count pairs p) refl)

  -- .. and all entries were passed
  pub awaited-all : ((k : ℕ) → k < library_count pairs p → awaits pairs s p k ≡ None) → awaited pairs s p ≡ library_count pairs p
  unfolding awaited
  awaited-all none = ap (λ o. unwrap_or o (library_count pairs p)) (first_among-none (awaits pairs s p) 0 (library_count pairs p) (λ k low high. none k (omega arith)))

  -- if one does, it isn't
  pub ready-not : (l : ℕ) → l < library_count pairs p → ((k : ℕ) → k < l → awaits pairs s p k ≡ None) → is_some (awaits pairs s p l) ≡ true → is_ready pairs s p ≡ (l == library_count pairs p)
  ready-not l under none waits =
      let x = some_of (awaits pairs s p l) waits in
      let P : ℕ → Type 0 = λ l. awaits pairs s p l ≡ Some x.0 in
      let e : l ≡ 0 + l = omega arith in
      ap is_none (first_among-at (awaits pairs s p) 0 (library_count pairs p) l x.0 under (λ k low high. none k (omega arith)) (subst P e x.1))
      ∙ sym (ne_eqb l (library_count pairs p) (λ same. absurd (omega arith)))

  -- .. and that entry is the first that waits
  pub awaited-first : (l : ℕ) → l < library_count pairs p → ((k : ℕ) → k < l → awaits pairs s p k ≡ None) → is_some (awaits pairs s p l) ≡ true → awaited pairs s p ≡ l
  unfolding awaited
  awaited-first l under none waits =
      let e : l ≡ 0 + l = omega arith in
      let P : ℕ → Type 0 = λ n. awaits pairs s p n ≡ Some l in
      ap (λ o. unwrap_or o (library_count pairs p)) (first_among-at (awaits pairs s p) 0 (library_count pairs p) l l under (λ k low high. none k (omega arith)) (subst P e (itself (before_of pairs p l) waits)))
    where
      by : (m : Bool) → is_some (cond {A = Option ℕ} m None (Some l)) ≡ true → cond m None (Some l) ≡ Some l
      by true waits = absurd (cc)
      by false waits = refl

      itself : (o : Option ℕ) → is_some (option_and_then (λ q. cond (is_marked s q) None (Some l)) o) ≡ true → option_and_then (λ q. cond (is_marked s q) None (Some l)) o ≡ Some l
      itself None waits = absurd (cc)
      itself (Some q) waits = by (is_marked s q) waits

-- the entries that were passed, noted
pub taking-passed : (pairs : List Pair) (order : List ℕ) (t t' : InitState) (p l : ℕ) → taken_of t' ≡ taken_of t → t'.passed.items ≡ set t.passed.items p l → p < length pairs → IsInitState pairs order t
    → ((k : ℕ) → k < l → awaits pairs (taken_of t) p k ≡ None) → IsInitState pairs order t'
taking-passed pairs order t t' p l same is inside are none = record {
  complete = are.complete;
  taken_size = ap (λ (s : Walked). length s.marked) same ∙ are.taken_size;
  passed_size = ap length is ∙ length-set t.passed.items p l ∙ are.passed_size;
  passed = λ q k under. ap (λ s. awaits pairs s q k) same ∙ by q k (subst (λ xs. k < get_or xs q 0) is under);
}
  where
    by : (q k : ℕ) → k < get_or (set t.passed.items p l) q 0 → awaits pairs (taken_of t) q k ≡ None
    by q k under = elim (eqb_tells q p) [
      | inl this ↦ (
          let size = are.passed_size in
          let here : get_or (set t.passed.items p l) p 0 ≡ l = get_or-set_same t.passed.items p l 0 (omega arith) in
          let P : ℕ → Type 0 = λ q. k < get_or (set t.passed.items p l) q 0 in
          let Q : ℕ → Type 0 = λ q. awaits pairs (taken_of t) q k ≡ None in
          let low = subst P this.1 under in
          subst Q (sym this.1) (none k (omega arith)))
      | inr other ↦ (
          let there : get_or (set t.passed.items p l) q 0 ≡ get_or t.passed.items q 0 = get_or-set_other t.passed.items p q l 0 other.1 in
          are.passed q k (omega arith))
    ]

-- no entry was passed at the start
get_or-zero : (n p : ℕ) → get_or {A = ℕ} (replicate n 0) p 0 ≡ 0
get_or-zero n p = elim (cases_lt p n) [
  | inl under ↦ get_or-replicate n p 0 0 under
  | inr past ↦ get_or_past (replicate n 0) p 0 (omega (arith, length-replicate {A = ℕ} n 0))
]

pub taking-fresh : (pairs : List Pair) (order : List ℕ) (t : InitState) → IsComplete pairs order → IsFresh t (length pairs) → IsInitState pairs order t
taking-fresh pairs order t complete fresh = record {
  complete = complete;
  taken_size = ap length fresh.taken ∙ length-replicate (length pairs) false;
  passed_size = ap length fresh.passed ∙ length-replicate (length pairs) 0;
  passed = λ p l under. (let low = subst (λ xs. l < get_or xs p 0) fresh.passed under in let none = get_or-zero (length pairs) p in absurd (omega arith));
}

pub taken-fresh : (pairs : List Pair) (t : InitState) → IsFresh t (length pairs) → taken_of t ≡ unwalked pairs
taken-fresh pairs t fresh = λ i. record { marked = fresh.taken i; order = fresh.order i }

module _ (pairs : List Pair) (s : Walked) (order : List ℕ) (i : ℕ) (under : i < length order) where
  -- the next fragment is taken if it wasn't taken and is ready
  pub next_ready-here : is_marked s (get_or order i 0) ≡ false → is_ready pairs s (get_or order i 0) ≡ true → next_ready pairs s (drop i order) ≡ Some (get_or order i 0)
  next_ready-here unmet ready =
      at_drop_more (next_ready pairs s) order i 0 under
      ∙ ap (λ m. cond (not m && is_ready pairs s (get_or order i 0)) (Some (get_or order i 0)) (next_ready pairs s (drop (i + 1) order))) unmet
      ∙ ap (λ m. cond m (Some (get_or order i 0)) (next_ready pairs s (drop (i + 1) order))) ready

  -- and is the first that is left if it wasn't taken
  pub first_left-here : is_marked s (get_or order i 0) ≡ false → first_left s (drop i order) ≡ Some (get_or order i 0)
  first_left-here unmet =
      at_drop_more (first_left s) order i 0 under
      ∙ ap (λ m. cond m (first_left s (drop (i + 1) order)) (Some (get_or order i 0))) unmet

-- a fragment of an order is one of the store
pub place_in_order : (pairs : List Pair) (order ps : List ℕ) (i : ℕ) → IsComplete pairs order → ps ≡ order → i < length ps → get_or ps i 0 < length pairs
place_in_order pairs order ps i complete same under =
    let there = subst (λ order. Contains order (get_or ps i 0)) same (Contains-get_or ps i 0 under) in
    (complete.members (get_or ps i 0) there).place

module _ (pairs : List Pair) (order : List ℕ) (s : Walked) where
  -- the end, if no fragment is ready
  pub take_ready-none : (n : ℕ) → next_ready pairs s order ≡ None → take_ready n pairs order s ≡ taken_all pairs s (first_left s order)
  unfolding take_ready
  take_ready-none zero none = refl
  take_ready-none (suc n) none = ap (take_next (take_ready n pairs order) pairs order s) none

  pub take_ready-some : (n i p : ℕ) → i < n → next_ready pairs s order ≡ Some p → take_ready (n - i) pairs order s ≡ take_ready (n - (i + 1)) pairs order (joining p (marking p s))
  unfolding take_ready
  take_ready-some n i p under some =
      let e : n - i ≡ suc (n - (i + 1)) = omega arith in
      ap (λ n. take_ready n pairs order s) e ∙ ap (take_next (take_ready (n - (i + 1)) pairs order) pairs order s) some

  pub take_ready-end : (n i : ℕ) → n ≤ i → take_ready (n - i) pairs order s ≡ taken_all pairs s (first_left s order)
  unfolding take_ready
  take_ready-end n i past = let e : n - i ≡ 0 = omega arith in ap (λ n. take_ready n pairs order s) e

pub take_ready-start : (pairs : List Pair) (order : List ℕ) (s : Walked) → s ≡ unwalked pairs → take_ready (length order - 0) pairs order s ≡ init_order_of pairs order
unfolding init_order_of
take_ready-start pairs order s start =
    let e : length order - 0 ≡ length order = omega arith in
    ap (λ n. take_ready n pairs order s) e ∙ ap (take_ready (length order) pairs order) start
