-- If there are more hops than exports, one is visited again.
use Rattle.std.proofs.Common.{◌≡◌, ℕ, zero, suc, ◌+◌, ◌-◌, ◌<◌, List, length, Option, None, Some, Ok, refl, sym, ap, ◌∙◌, subst, arith, Contains}
use Rattle.std.specs.Prelude.{Result, Err, unwrap_or}
use Rattle.std.specs.List.{range_with_len}
use Rattle.std.specs.Option.{option_and_then}
use Rattle.std.proofs.lemmas.List.FromFn.{get_or-range_with_len, length-range_with_len}
use Rattle.cfm_store.specs.Stores.{Pair}
use Rattle.cfm_closure.specs.Faults.{BindRefusal}
use Rattle.cfm_closure.specs.Libraries.{bound_to}
use Rattle.cfm_closure.specs.Orders.{IsComplete}
use Rattle.cfm_closure.proofs.BoundLemmas.{library_at-is, stands_for}
use Rattle.cfm_closure.proofs.OrderFacts.{bound-inside}
use Rattle.cfm_closure.specs.declared.targets.Target.{Target}
use Rattle.cfm_closure.specs.Reexports.{MeetsAgain, hops, met, next_of}
use Rattle.cfm_closure.specs.Targets.{Hop, ends, exports_among, exports_in, follow, followed, hop, through}
use Rattle.cfm_closure.proofs.FollowLemmas.{Goes, Step, follow-none, follow-on, hops-before, meets_again-for_ever, onward, step_at}
use Rattle.cfm_closure.proofs.Pigeons.{pigeons}
use Rattle.cfm_closure.proofs.Ranks.{IsAmong, rank, rank-below, rank-same}

-- fragments with a property that hops keep, and whose exports are among those of some fragments
module _ (pairs : List Pair) (I : ℕ → Type 0) (ps : List ℕ)
    (keeps : (v : ℕ × ℕ) (next : (ℕ × ℕ) × (ℕ × ℕ)) → I v.0 → next_of (hop pairs v.0 v.1) ≡ Some next → I next.1.0 × Contains ps next.0.0) where
  kept : (n : ℕ) (v w : ℕ × ℕ) → I v.0 → hops pairs n v ≡ Some w → I w.0
  unfolding hops
  kept zero v w is reached = let same : v ≡ w = cc in let P : ℕ × ℕ → Type 0 = λ v. I v.0 in subst P same is
  kept (suc n) v w is reached = by (next_of (hop pairs v.0 v.1)) refl reached (λ u. kept n u w)
    where
      by : (o : Option ((ℕ × ℕ) × (ℕ × ℕ))) → next_of (hop pairs v.0 v.1) ≡ o → option_and_then (λ next. hops pairs n next.1) o ≡ Some w → ((u : ℕ × ℕ) → I u.0 → hops pairs n u ≡ Some w → I w.0) → I w.0
      by None was reached deeper = absurd (cc)
      by (Some next) was reached deeper = deeper next.1 (keeps v next is was).0 reached

  module _ (v : ℕ × ℕ) (is : I v.0) (far : Goes pairs (suc (exports_among pairs ps)) v) where
    step : (i : ℕ) → i < exports_among pairs ps + 1 → Step pairs i v
    step i under =
        let e : suc i + (exports_among pairs ps - i) ≡ suc (exports_among pairs ps) = omega arith in
        let near = hops-before pairs (suc i) (exports_among pairs ps - i) v far.to (ap (λ k. hops pairs k v) e ∙ far.is) in
        step_at pairs i v (record { to = near.0; is = near.1 })

    -- the export that is visited at a hop
    export_at : ℕ → ℕ × ℕ
    export_at i = unwrap_or (met pairs i v) (0, 0)

    export_at-is : (i : ℕ) → i < exports_among pairs ps + 1 → met pairs i v ≡ Some (export_at i)
    unfolding export_at
    export_at-is i under =
        let s = step i under in
        s.meets ∙ ap Some (sym (ap (λ o. unwrap_or o (0, 0)) s.meets))

    among : (i : ℕ) → i < exports_among pairs ps + 1 → IsAmong pairs ps (export_at i)
    unfolding export_at
    among i under =
        let s = step i under in
        let o = onward pairs s.at s.next s.is in
        let same : s.next.0 ≡ export_at i = sym (ap (λ o. unwrap_or o (0, 0)) s.meets) in
        subst (IsAmong pairs ps) same (record { fragment = (keeps s.at s.next (kept i v s.at is s.reached) s.is).1; below = o.below })

    pub again : MeetsAgain pairs v
    again =
        let t = pigeons (λ i. rank pairs ps (export_at i)) (exports_among pairs ps) (λ i under. rank-below pairs ps (export_at i) (among i under)) in
        let later = t.later in
        let high = t.high in
        let same = rank-same pairs ps (export_at t.first) (export_at t.second) (among t.first (omega arith)) (among t.second (omega arith)) t.same in
        record {
          first = t.first;
          second = t.second;
          later = later;
          export = export_at t.first;
          was = export_at-is t.first (omega arith);
          again = export_at-is t.second (omega arith) ∙ ap Some (sym same);
        }

-- where a hop leads: a library entry has that fragment
record ByLibrary (pairs : List Pair) (v : ℕ × ℕ) (next : (ℕ × ℕ) × (ℕ × ℕ)) : Type 0 where
  pub library : ℕ
  pub is : bound_to pairs v.0 library ≡ Ok (Some next.0.0)
  pub same : next.1.0 ≡ next.0.0

by_library : (pairs : List Pair) (v : ℕ × ℕ) (next : (ℕ × ℕ) × (ℕ × ℕ)) → next_of (hop pairs v.0 v.1) ≡ Some next → ByLibrary pairs v next
by_library pairs v next is =
    let o = onward pairs v next is in
    record {
      library = o.goes.symbol.library;
      is = library_at-is pairs v.0 o.goes.symbol.library next.0.0 o.goes.library;
      same = ap (λ (w : ℕ × ℕ). w.0) o.place;
    }

module _ (pairs : List Pair) where
  -- each fragment that a hop leads to is one of the store
  in_store : (q : ℕ) → q < length pairs → Contains (range_with_len 0 (length pairs)) q
  in_store q inside =
      let size : length (range_with_len 0 (length pairs)) ≡ length pairs = length-range_with_len 0 (length pairs) in
      let e : 0 + q ≡ q = omega arith in
      (q, omega arith, get_or-range_with_len 0 (length pairs) q q inside ∙ e)

  keeps_store : (v : ℕ × ℕ) (next : (ℕ × ℕ) × (ℕ × ℕ)) → Unit {0} → next_of (hop pairs v.0 v.1) ≡ Some next → Unit {0} × Contains (range_with_len 0 (length pairs)) next.0.0
  keeps_store v next is goes =
      let b = by_library pairs v next goes in
      (tt, in_store next.0.0 (stands_for pairs v.0 b.library next.0.0 b.is).inside)

  -- if there are more hops than all exports, one is visited again
  pub again_in_store : (v : ℕ × ℕ) → follow (exports_in pairs) pairs v.0 v.1 ≡ None → MeetsAgain pairs v
  again_in_store v none = again pairs (λ q. Unit {0}) (range_with_len 0 (length pairs)) keeps_store v tt (follow-none pairs (exports_in pairs) v none)

  -- an export that is visited again is visited for ever
  pub for_ever : (v : ℕ × ℕ) (n : ℕ) → MeetsAgain pairs v → follow n pairs v.0 v.1 ≡ None
  for_ever v n m = follow-on pairs n v (meets_again-for_ever pairs v m (suc n))

  -- a result stays with more hops
  follow-more : (n : ℕ) (v : ℕ × ℕ) (a : Result (Option Target) BindRefusal) → follow n pairs v.0 v.1 ≡ Some a → follow (suc n) pairs v.0 v.1 ≡ Some a
  unfolding follow
  follow-more zero v a is = by (hop pairs v.0 v.1) is
    where
      by : (r : Result Hop BindRefusal) → followed (λ q k. None) r ≡ Some a → followed (follow 0 pairs) r ≡ Some a
      by (Ok (ends t)) is = is
      by (Ok (through q e k)) is = absurd (cc)
      by (Err r) is = is
  follow-more (suc n) v a is = by (hop pairs v.0 v.1) is (λ u. follow-more n u a)
    where
      by : (r : Result Hop BindRefusal) → followed (follow n pairs) r ≡ Some a → ((u : ℕ × ℕ) → follow n pairs u.0 u.1 ≡ Some a → follow (suc n) pairs u.0 u.1 ≡ Some a) → followed (follow (suc n) pairs) r ≡ Some a
      by (Ok (ends t)) is deeper = is
      by (Ok (through q e k)) is deeper = deeper (q, k) is
      by (Err r) is deeper = is

  follow-later : (m n : ℕ) (v : ℕ × ℕ) (a : Result (Option Target) BindRefusal) → follow n pairs v.0 v.1 ≡ Some a → follow (m + n) pairs v.0 v.1 ≡ Some a
  follow-later zero n v a is = let e : n ≡ 0 + n = omega arith in subst (λ n. follow n pairs v.0 v.1 ≡ Some a) e is
  follow-later (suc m) n v a is =
      let e : suc (m + n) ≡ suc m + n = omega arith in
      subst (λ n. follow n pairs v.0 v.1 ≡ Some a) e (follow-more (m + n) v a (follow-later m n v a is))

  -- two numbers of hops with a result have the same result
  same_answer : (m n : ℕ) (v : ℕ × ℕ) (a b : Result (Option Target) BindRefusal) → follow m pairs v.0 v.1 ≡ Some a → follow n pairs v.0 v.1 ≡ Some b → a ≡ b
  same_answer m n v a b is is' =
      let e : n + m ≡ m + n = omega arith in
      let x = follow-later n m v a is in
      let y = follow-later m n v b is' in
      let z : Some a ≡ Some b = sym x ∙ ap (λ k. follow k pairs v.0 v.1) e ∙ y in
      cc

  -- a number of hops that has no result only if no number has one gives the result for the exports of the store
  pub enough : (n : ℕ) (v : ℕ × ℕ) → (follow n pairs v.0 v.1 ≡ None → MeetsAgain pairs v) → follow n pairs v.0 v.1 ≡ follow (exports_in pairs) pairs v.0 v.1
  enough n v meets = by (follow n pairs v.0 v.1) (follow (exports_in pairs) pairs v.0 v.1) refl refl
    where
      by : (x y : Option (Result (Option Target) BindRefusal)) → follow n pairs v.0 v.1 ≡ x → follow (exports_in pairs) pairs v.0 v.1 ≡ y → x ≡ y
      by None y is is' = sym (for_ever v (exports_in pairs) (meets is)) ∙ is'
      by (Some a) None is is' = sym is ∙ for_ever v n (again_in_store v is')
      by (Some a) (Some b) is is' = ap Some (same_answer n (exports_in pairs) v a b is is')

  -- the bound is never reached: an import has the result of the import that it leads to
  pub follow-next : (p j q e k : ℕ) → hop pairs p j ≡ Ok (through q e k) → follow (exports_in pairs) pairs p j ≡ follow (exports_in pairs) pairs q k
  unfolding follow
  follow-next p j q e k is =
      sym (enough (suc (exports_in pairs)) (p, j) meets)
      ∙ ap (followed (follow (exports_in pairs) pairs)) is
    where
      meets : follow (suc (exports_in pairs)) pairs p j ≡ None → MeetsAgain pairs (p, j)
      meets none = by (follow (exports_in pairs) pairs p j) refl
        where
          by : (x : Option (Result (Option Target) BindRefusal)) → follow (exports_in pairs) pairs p j ≡ x → MeetsAgain pairs (p, j)
          by None none' = again_in_store (p, j) none'
          by (Some a) some = absurd (let e : None ≡ Some a = sym none ∙ follow-more (exports_in pairs) (p, j) a some in cc)

  module _ (order : List ℕ) (complete : IsComplete pairs order) where
    keeps_order : (v : ℕ × ℕ) (next : (ℕ × ℕ) × (ℕ × ℕ)) → Contains order v.0 → next_of (hop pairs v.0 v.1) ≡ Some next → Contains order next.1.0 × Contains order next.0.0
    keeps_order v next there goes =
        let b = by_library pairs v next goes in
        let inside = bound-inside pairs order v.0 b.library (Some next.0.0) complete there b.is in
        (subst (Contains order) (sym b.same) inside, inside)

    -- in a closure, its own exports are as good a bound as those of the store
    pub follow-order : (p j : ℕ) → Contains order p → follow (exports_among pairs order) pairs p j ≡ follow (exports_in pairs) pairs p j
    follow-order p j there = enough (exports_among pairs order) (p, j)
        (λ none. again pairs (Contains order) order keeps_order (p, j) there (follow-none pairs (exports_among pairs order) (p, j) none))
