-- Two stores that have the same fragments and bindings at the places of an order.
use Rattle.std.proofs.Common.{◌≡◌, ℕ, zero, suc, ◌+◌, ◌<◌, ◌≤◌, Bool, true, false, List, [], ◌∷◌, ◌++◌, length, Option, None, Some, Ok, refl, sym, ap, ◌∙◌, subst, get_or, set, inl, inr, arith, Contains}
use Rattle.std.specs.Prelude.{Result}
use Rattle.std.proofs.lemmas.Bool.{cases_lt}
use Rattle.std.proofs.lemmas.Bool.Decides.{eqb_tells}
use Rattle.std.proofs.lemmas.List.{get_or-set_other, get_or-set_same, get_or_past, length-set}
use Rattle.std.proofs.lemmas.List.Elements.{Contains-append_left, Contains-push}
use Rattle.pef_views.specs.Container.{container_of}
use Rattle.pef_words.specs.Results.{◌>>=◌}
use Rattle.cfm_store.specs.Stores.{Pair, pair_of}
use Rattle.cfm_closure.specs.Faults.{BindRefusal}
use Rattle.cfm_closure.specs.Fragments.{fragment_of, with_container}
use Rattle.cfm_closure.specs.Libraries.{bound_to}
use Rattle.cfm_closure.specs.Walk.{Walked, is_marked, joining, marking, order_of, unwalked, walk, walk_at, walk_to, walks_from}
use Rattle.cfm_closure.proofs.BoundLemmas.{stands_for}
use Rattle.cfm_closure.proofs.OrderFacts.{few_left, unmarked_start}
use Rattle.cfm_closure.proofs.WalkRules.{came, walk-any}

-- two stores have the same pair in a place, and its library entries have the same fragments
pub record SameAt (pairs pairs' : List Pair) (p : ℕ) : Type 0 where
  pub pair : pair_of pairs' p ≡ pair_of pairs p
  pub bound : (l : ℕ) → bound_to pairs' p l ≡ bound_to pairs p l

pub fragment_of-same : (pairs pairs' : List Pair) (p : ℕ) → pair_of pairs' p ≡ pair_of pairs p → fragment_of pairs' p ≡ fragment_of pairs p
unfolding fragment_of
fragment_of-same pairs pairs' p same = ap (λ (x : Pair). with_container x.name (container_of x.bytes)) same

-- two states of walks with the same order, in which the same of the first places are marked
pub record Alike (places : ℕ) (s s' : Walked) : Type 0 where
  pub order : s'.order ≡ s.order
  pub marks : (q : ℕ) → q < places → is_marked s' q ≡ is_marked s q

-- past the marks every fragment is marked, so a mark is there in any case
marked-here : (marks : List Bool) (p : ℕ) → get_or (set marks p true) p true ≡ true
marked-here marks p = elim (cases_lt p (length marks)) [
  | inl inside ↦ get_or-set_same marks p true true inside
  | inr past ↦ get_or_past (set marks p true) p true (let e = length-set marks p true in omega arith)
]

-- they stay so if a fragment is visited or joins the order
pub Alike-marking : (places p : ℕ) (s s' : Walked) → Alike places s s' → Alike places (marking p s) (marking p s')
Alike-marking places p s s' a = record {
  order = a.order;
  marks = λ q inside. elim (eqb_tells q p) [
    | inl same ↦ (let P : ℕ → Type 0 = λ q. is_marked (marking p s') q ≡ is_marked (marking p s) q in
        subst P (sym same.1) (marked-here s'.marked p ∙ sym (marked-here s.marked p)))
    | inr other ↦ get_or-set_other s'.marked p q true true other.1 ∙ a.marks q inside ∙ sym (get_or-set_other s.marked p q true true other.1)
  ];
}

pub Alike-joining : (places p : ℕ) (s s' : Walked) → Alike places s s' → Alike places (joining p s) (joining p s')
Alike-joining places p s s' a = record { order = ap (λ o. o ++ p ∷ []) a.order; marks = a.marks }

-- a walk that isn't refused leads also in the other store, to a state alike
pub record Led (places : ℕ) (r : Result Walked BindRefusal) (t : Walked) : Type 0 where
  pub to : Walked
  pub is : r ≡ Ok to
  pub alike : Alike places t to

-- a walk keeps the order so far
module _ (v : ℕ → Walked → Result Walked BindRefusal) (kept : (p : ℕ) (s t : Walked) → v p s ≡ Ok t → (r : ℕ) → Contains s.order r → Contains t.order r) (pairs : List Pair) (p : ℕ) where
  walk_to-kept : (q : Option ℕ) (s t : Walked) → walk_to v q s ≡ Ok t → (r : ℕ) → Contains s.order r → Contains t.order r
  walk_to-kept None s t is r there = let same : s ≡ t = cc in subst (λ (t : Walked). Contains t.order r) same there
  walk_to-kept (Some q) s t is r there = kept q s t is r there

  walks_from-kept : (l n : ℕ) (s t : Walked) → walks_from v pairs p l n s ≡ Ok t → (r : ℕ) → Contains s.order r → Contains t.order r
  walks_from-kept l zero s t is r there = let same : s ≡ t = cc in subst (λ (t : Walked). Contains t.order r) same there
  walks_from-kept l (suc n) s t is r there =
      let a = came (bound_to pairs p l) (λ q. walk_to v q s >>= walks_from v pairs p (l + 1) n) t is in
      let b = came (walk_to v a.value s) (walks_from v pairs p (l + 1) n) t a.leads in
      walks_from-kept (l + 1) n b.value t b.leads r (walk_to-kept a.value s b.value b.is r there)

walk-kept : (n : ℕ) (pairs : List Pair) (p : ℕ) (s t : Walked) → walk n pairs p s ≡ Ok t → (r : ℕ) → Contains s.order r → Contains t.order r
unfolding walk
walk-kept zero pairs p s t is r there = let same : s ≡ t = cc in subst (λ (t : Walked). Contains t.order r) same there
walk-kept (suc n) pairs p s t is r there = by (is_marked s p) is (walk-kept n pairs)
  where
    by : (b : Bool) → walk_at (walk n pairs) pairs p s b ≡ Ok t → ((p : ℕ) (s t : Walked) → walk n pairs p s ≡ Ok t → (r : ℕ) → Contains s.order r → Contains t.order r) → Contains t.order r
    by true is deeper = let same : s ≡ t = cc in subst (λ (t : Walked). Contains t.order r) same there
    by false is deeper =
        let a = came (fragment_of pairs p) (λ f. walks_from (walk n pairs) pairs p 0 f.loader.header.library_count (marking p s) >>= (λ s. Ok (joining p s))) t is in
        let b = came (walks_from (walk n pairs) pairs p 0 a.value.loader.header.library_count (marking p s)) (λ s. Ok (joining p s)) t a.leads in
        let same : joining p b.value ≡ t = cc in
        let inner = walks_from-kept (walk n pairs) deeper pairs p 0 a.value.loader.header.library_count (marking p s) b.value b.is r there in
        subst (λ (t : Walked). Contains t.order r) same (Contains-append_left b.value.order (p ∷ []) r inner)

module _ (pairs pairs' : List Pair) where
  -- the stores are the same at all fragments of an order
  abbrev pub AreSame : List ℕ → Type 0
  AreSame order = (q : ℕ) → Contains order q → SameAt pairs pairs' q

  module _ (v v' : ℕ → Walked → Result Walked BindRefusal)
      (kept : (p : ℕ) (s t : Walked) → v p s ≡ Ok t → (r : ℕ) → Contains s.order r → Contains t.order r)
      (leads : (q : ℕ) (s s' t : Walked) → q < length pairs → Alike (length pairs) s s' → v q s ≡ Ok t → AreSame t.order → Led (length pairs) (v' q s') t)
      (p : ℕ) (here : SameAt pairs pairs' p) where
    walk_to-same : (b : Option ℕ) (l : ℕ) (s s' t : Walked) → bound_to pairs p l ≡ Ok b → Alike (length pairs) s s' → walk_to v b s ≡ Ok t → AreSame t.order → Led (length pairs) (walk_to v' b s') t
    walk_to-same None l s s' t bound a is good =
        let same : s ≡ t = cc in
        record { to = s'; is = refl; alike = subst (λ (t : Walked). Alike (length pairs) t s') same a }
    walk_to-same (Some q) l s s' t bound a is good = leads q s s' t (stands_for pairs p l q bound).inside a is good

    walks_from-same : (l n : ℕ) (s s' t : Walked) → Alike (length pairs) s s' → walks_from v pairs p l n s ≡ Ok t → AreSame t.order → Led (length pairs) (walks_from v' pairs' p l n s') t
    walks_from-same l zero s s' t a is good =
        let same : s ≡ t = cc in
        record { to = s'; is = refl; alike = subst (λ (t : Walked). Alike (length pairs) t s') same a }
    walks_from-same l (suc n) s s' t a is good =
        let b = came (bound_to pairs p l) (λ q. walk_to v q s >>= walks_from v pairs p (l + 1) n) t is in
        let w = came (walk_to v b.value s) (walks_from v pairs p (l + 1) n) t b.leads in
        let first = walk_to-same b.value l s s' w.value b.is a w.is (λ q there. good q (walks_from-kept v kept pairs p (l + 1) n w.value t w.leads q there)) in
        let rest = walks_from-same (l + 1) n w.value first.to t first.alike w.leads good in
        record {
          to = rest.to;
          is = ap (λ r. r >>= (λ q. walk_to v' q s' >>= walks_from v' pairs' p (l + 1) n)) (here.bound l ∙ b.is)
              ∙ ap (λ r. r >>= walks_from v' pairs' p (l + 1) n) first.is
              ∙ rest.is;
          alike = rest.alike;
        }

  walk-same : (n p : ℕ) (s s' t : Walked) → p < length pairs → Alike (length pairs) s s' → walk n pairs p s ≡ Ok t → AreSame t.order → Led (length pairs) (walk n pairs' p s') t
  unfolding walk
  walk-same zero p s s' t inside a is good =
      let same : s ≡ t = cc in
      record { to = s'; is = refl; alike = subst (λ (t : Walked). Alike (length pairs) t s') same a }
  walk-same (suc n) p s s' t inside a is good = by (is_marked s p) refl is (walk-same n)
    where
      by : (b : Bool) → is_marked s p ≡ b → walk_at (walk n pairs) pairs p s b ≡ Ok t
          → ((p : ℕ) (s s' t : Walked) → p < length pairs → Alike (length pairs) s s' → walk n pairs p s ≡ Ok t → AreSame t.order → Led (length pairs) (walk n pairs' p s') t)
          → Led (length pairs) (walk_at (walk n pairs') pairs' p s' (is_marked s' p)) t
      by true met is deeper =
          let same : s ≡ t = cc in
          record {
            to = s';
            is = ap (walk_at (walk n pairs') pairs' p s') (a.marks p inside ∙ met);
            alike = subst (λ (t : Walked). Alike (length pairs) t s') same a;
          }
      by false unmet is deeper =
          let f = came (fragment_of pairs p) (λ f. walks_from (walk n pairs) pairs p 0 f.loader.header.library_count (marking p s) >>= (λ s. Ok (joining p s))) t is in
          let w = came (walks_from (walk n pairs) pairs p 0 f.value.loader.header.library_count (marking p s)) (λ s. Ok (joining p s)) t f.leads in
          let same : joining p w.value ≡ t = cc in
          let last = subst (λ (t : Walked). Contains t.order p) same (Contains-push w.value.order p) in
          let here = good p last in
          let inner = walks_from-same (walk n pairs) (walk n pairs') (walk-kept n pairs) deeper p here 0 f.value.loader.header.library_count (marking p s) (marking p s') w.value (Alike-marking (length pairs) p s s' a) w.is
          (λ q there. good q (subst (λ (t : Walked). Contains t.order q) same (Contains-append_left w.value.order (p ∷ []) q there))) in
          record {
            to = joining p inner.to;
            is = ap (walk_at (walk n pairs') pairs' p s') (a.marks p inside ∙ unmet)
                ∙ ap (λ r. r >>= (λ f. walks_from (walk n pairs') pairs' p 0 f.loader.header.library_count (marking p s') >>= (λ s. Ok (joining p s)))) (fragment_of-same pairs pairs' p here.pair ∙ f.is)
                ∙ ap (λ r. r >>= (λ s. Ok (joining p s))) inner.is;
            alike = subst (λ (t : Walked). Alike (length pairs) t (joining p inner.to)) same (Alike-joining (length pairs) p w.value inner.to inner.alike);
          }

  -- no fragment was visited in either store
  pub start-same : length pairs ≤ length pairs' → Alike (length pairs) (unwalked pairs) (unwalked pairs')
  start-same more = record {
    order = refl;
    marks = λ q inside. unmarked_start pairs' q (omega arith) ∙ sym (unmarked_start pairs q inside);
  }

  -- so the order of a root is the same
  pub order_of-same : (root : ℕ) (order : List ℕ) → root < length pairs → length pairs ≤ length pairs' → order_of pairs root ≡ Ok order → AreSame order → order_of pairs' root ≡ Ok order
  unfolding order_of
  order_of-same root order inside more is good =
      let a = came (walk (length pairs) pairs root (unwalked pairs)) (λ s. Ok s.order) order is in
      let same : a.value.order ≡ order = cc in
      let few = few_left pairs in
      let wide = walk-any (length pairs') (length pairs) pairs root (unwalked pairs) (omega arith) few ∙ a.is in
      let led = walk-same (length pairs') root (unwalked pairs) (unwalked pairs') a.value inside (start-same more) wide (subst AreSame (sym same) good) in
      ap (λ r. r >>= (λ s. Ok s.order)) led.is ∙ ap Ok (led.alike.order ∙ same)
