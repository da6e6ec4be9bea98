-- Each fragment of a closure is its root, or the first with its name.
use Rattle.std.proofs.Common.{◌≡◌, ℕ, zero, suc, ◌+◌, ◌<◌, Bool, true, false, List, [], ◌∷◌, length, Option, None, Some, Ok, refl, sym, subst, inl, inr, arith, Contains}
use Rattle.std.specs.Prelude.{◌⊎◌, Result}
use Rattle.std.proofs.lemmas.List.Elements.{Contains-append_cases}
use Rattle.pef_words.specs.Results.{◌>>=◌}
use Rattle.cfm_store.specs.Stores.{Pair, pair_of, place_of}
use Rattle.cfm_closure.specs.Faults.{BindRefusal}
use Rattle.cfm_closure.specs.Fragments.{fragment_of}
use Rattle.cfm_closure.specs.Libraries.{bound_to}
use Rattle.cfm_closure.specs.Closures.{Closed, closed_of}
use Rattle.cfm_closure.specs.Walk.{Walked, is_marked, joining, marking, order_of, unwalked, walk, walk_at, walk_to, walks_from}
use Rattle.cfm_closure.proofs.ClosedLemmas.{closed-order}
use Rattle.cfm_closure.proofs.Ranks.{contains_cases}
use Rattle.cfm_closure.proofs.RefusalLemmas.{IsMet, library-met, root-met}
use Rattle.cfm_closure.proofs.WalkRules.{came, same_ok}

no_member : (q : ℕ) → Contains [] q → ⊥
no_member q there = absurd (let h = there.1 in omega arith)

module _ (pairs : List Pair) (root : ℕ) where
  -- all fragments that are done
  abbrev AreMet : Walked → Type 0
  AreMet s = (q : ℕ) → Contains s.order q → IsMet pairs root q

  -- a walk that ends here
  abbrev ended : Walked → Result Walked BindRefusal
  ended s = Ok s

  same-met : (s t : Walked) → ended s ≡ Ok t → AreMet s → AreMet t
  same-met s t is met = subst AreMet (same_ok (ended s) s t refl is) met

  join-met : (p : ℕ) (s : Walked) → IsMet pairs root p → AreMet s → AreMet (joining p s)
  join-met p s here met q there = elim (Contains-append_cases s.order (p ∷ []) q there) [
    | inl before ↦ met q before
    | inr last ↦ elim (contains_cases p [] q last) [
      | inl same ↦ subst (IsMet pairs root) same here
      | inr none ↦ absurd (no_member q none)
    ]
  ]

  -- a walk from a fragment
  abbrev Meets : (ℕ → Walked → Result Walked BindRefusal) → Type 0
  Meets v = (q : ℕ) (s t : Walked) → IsMet pairs root q → v q s ≡ Ok t → AreMet s → AreMet t

  walk_to-met : (v : ℕ → Walked → Result Walked BindRefusal) → Meets v → (p l : ℕ) (o : Option ℕ) (s t : Walked) → bound_to pairs p l ≡ Ok o → walk_to v o s ≡ Ok t → AreMet s → AreMet t
  walk_to-met v each p l None s t found is met = same-met s t is met
  walk_to-met v each p l (Some q) s t found is met = each q s t (library-met pairs root p l q found) is met

  walks-met : (v : ℕ → Walked → Result Walked BindRefusal) → Meets v → (p l n : ℕ) (s t : Walked) → walks_from v pairs p l n s ≡ Ok t → AreMet s → AreMet t
  walks-met v each p l zero s t is met = same-met s t is met
  walks-met v each p l (suc n) s t is met =
      let a = came (bound_to pairs p l) (λ q. walk_to v q s >>= walks_from v pairs p (l + 1) n) t is in
      let b = came (walk_to v a.value s) (walks_from v pairs p (l + 1) n) t a.leads in
      walks-met v each p (l + 1) n b.value t b.leads (walk_to-met v each p l a.value s b.value a.is b.is met)

  walk_at-met : (v : ℕ → Walked → Result Walked BindRefusal) → Meets v → (p : ℕ) (s t : Walked) (marked : Bool) → IsMet pairs root p → walk_at v pairs p s marked ≡ Ok t → AreMet s → AreMet t
  walk_at-met v each p s t true here is met = same-met s t is met
  walk_at-met v each p s t false here is met =
      let a = came (fragment_of pairs p) (λ f. walks_from v pairs p 0 f.loader.header.library_count (marking p s) >>= (λ s. Ok (joining p s))) t is in
      let b = came (walks_from v pairs p 0 a.value.loader.header.library_count (marking p s)) (λ s. Ok (joining p s)) t a.leads in
      same-met (joining p b.value) t b.leads (join-met p b.value here (walks-met v each p 0 a.value.loader.header.library_count (marking p s) b.value b.is met))

  walk-met : (n : ℕ) → Meets (walk n pairs)
  unfolding walk
  walk-met zero p s t here is met = same-met s t is met
  walk-met (suc n) p s t here is met = walk_at-met (walk n pairs) (walk-met n) p s t (is_marked s p) here is met

  abbrev ended_order : List ℕ → Result (List ℕ) BindRefusal
  ended_order order = Ok order

  pub closed-met : (c : Closed) (p : ℕ) → root < length pairs → closed_of pairs root ≡ Ok c → Contains c.order p → (p ≡ root) ⊎ (place_of pairs (pair_of pairs p).name ≡ Some p)
  unfolding order_of
  closed-met c p inside is there =
      let order = closed-order pairs root c is in
      let a = came (walk (length pairs) pairs root (unwalked pairs)) (λ s. Ok s.order) c.order order in
      let all = walk-met (length pairs) root (unwalked pairs) a.value (root-met pairs root inside) a.is (λ q none. absurd (no_member q none)) in
      let same : a.value.order ≡ c.order = same_ok (ended_order a.value.order) a.value.order c.order refl a.leads in
      (all p (subst (λ order. Contains order p) (sym same) there)).found
