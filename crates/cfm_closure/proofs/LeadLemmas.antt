-- Where imports lead to.
use Rattle.std.proofs.Common.{◌≡◌, ℕ, zero, suc, ◌+◌, ◌<◌, List, Option, None, Some, Ok, Err, refl, sym, ap, ◌∙◌, arith, Contains}
use Rattle.std.specs.Prelude.{Result}
use Rattle.std.specs.Option.{option_and_then, option_map_or}
use Rattle.cfm_store.specs.Stores.{Pair, pair_of}
use Rattle.cfm_closure.specs.Faults.{BindRefusal, reexport_loop}
use Rattle.cfm_closure.specs.Fragments.{import_count, import_place}
use Rattle.cfm_closure.specs.Orders.{IsComplete}
use Rattle.cfm_closure.specs.declared.targets.Target.{Target}
use Rattle.cfm_closure.specs.Reexports.{hops, next_of}
use Rattle.cfm_closure.specs.Targets.{Hop, ends, exports_among, exports_in, follow, followed, hop, symbol_of, target_of, through}
use Rattle.cfm_closure.specs.Kept.Targets.{IsOnWay, led_to}
use Rattle.cfm_closure.proofs.FollowLemmas.{Goes, follow-on, hops-then}
use Rattle.cfm_closure.proofs.LoopLemmas.{follow-next, follow-order}

module _ (pairs : List Pair) where
  -- the target to which an import leads is its target, or its refusal
  pub target-led : (p j : ℕ) (a : Result (Option Target) BindRefusal) → led_to pairs (p, j) ≡ Some a → target_of pairs p j ≡ a
  unfolding target_of
  target-led p j a is = ap (λ o. option_map_or (λ (answer : Result (Option Target) BindRefusal). answer) o (Err (reexport_loop (pair_of pairs p).name (symbol_of pairs p j) (import_place pairs p j)))) is

  -- an import that leads to no target is endless
  pub target-endless : (p j : ℕ) → led_to pairs (p, j) ≡ None → target_of pairs p j ≡ Err (reexport_loop (pair_of pairs p).name (symbol_of pairs p j) (import_place pairs p j))
  unfolding target_of
  target-endless p j is = ap (λ o. option_map_or (λ (answer : Result (Option Target) BindRefusal). answer) o (Err (reexport_loop (pair_of pairs p).name (symbol_of pairs p j) (import_place pairs p j)))) is

  -- an import with a target leads to it
  pub led-target : (p j : ℕ) (t : Option Target) → target_of pairs p j ≡ Ok t → led_to pairs (p, j) ≡ Some (Ok t)
  unfolding target_of
  led-target p j t is = by (led_to pairs (p, j)) refl is
    where
      by : (o : Option (Result (Option Target) BindRefusal)) → led_to pairs (p, j) ≡ o → option_map_or (λ answer. answer) o (Err (reexport_loop (pair_of pairs p).name (symbol_of pairs p j) (import_place pairs p j))) ≡ Ok t → o ≡ Some (Ok t)
      by None was is = absurd (cc)
      by (Some a) was is = ap Some is

  follow-at : (n : ℕ) (p j : ℕ) (r : Result Hop BindRefusal) (a : Result (Option Target) BindRefusal) → hop pairs p j ≡ r → ((on : ℕ → ℕ → Option (Result (Option Target) BindRefusal)) → followed on r ≡ Some a) → follow n pairs p j ≡ Some a
  unfolding follow
  follow-at zero p j r a is there = ap (followed (λ q k. None)) is ∙ there (λ q k. None)
  follow-at (suc n) p j r a is there = ap (followed (follow n pairs)) is ∙ there (follow n pairs)

  -- a hop that ends, one that is refused, and one that continues
  pub led-ends : (p j : ℕ) (t : Option Target) → hop pairs p j ≡ Ok (ends t) → led_to pairs (p, j) ≡ Some (Ok t)
  led-ends p j t is = follow-at (exports_in pairs) p j (Ok (ends t)) (Ok t) is (λ on. refl)

  pub led-refused : (p j : ℕ) (r : BindRefusal) → hop pairs p j ≡ Err r → led_to pairs (p, j) ≡ Some (Err r)
  led-refused p j r is = follow-at (exports_in pairs) p j (Err r) (Err r) is (λ on. refl)

  pub led-through : (p j q e k : ℕ) → hop pairs p j ≡ Ok (through q e k) → led_to pairs (q, k) ≡ led_to pairs (p, j)
  led-through p j q e k is = sym (follow-next pairs p j q e k is)

  -- a hop more
  pub hops-more : (i : ℕ) (v : ℕ × ℕ) (p j q e k : ℕ) → hops pairs i v ≡ Some (p, j) → hop pairs p j ≡ Ok (through q e k) → hops pairs (i + 1) v ≡ Some (q, k)
  unfolding hops
  hops-more i v p j q e k reached is =
      hops-then pairs i 1 v (p, j) reached
      ∙ ap (λ r. option_and_then (λ (next : (ℕ × ℕ) × (ℕ × ℕ)). hops pairs 0 next.1) (next_of r)) is

  pub hops-none : (v : ℕ × ℕ) → hops pairs 0 v ≡ Some v
  unfolding hops
  hops-none v = refl

  -- more hops than the exports of a closure have no end
  pub led-endless : (order : List ℕ) (p j exports n : ℕ) (w : ℕ × ℕ) → IsComplete pairs order → Contains order p → exports ≡ exports_among pairs order → n ≡ exports + 1 → hops pairs n (p, j) ≡ Some w → led_to pairs (p, j) ≡ None
  led-endless order p j exports n w complete there count more reached =
      let e : n ≡ suc (exports_among pairs order) = omega arith in
      let goes : Goes pairs (suc (exports_among pairs order)) (p, j) = record { to = w; is = ap (λ m. hops pairs m (p, j)) (sym e) ∙ reached } in
      sym (follow-order pairs order complete p j there) ∙ follow-on pairs (exports_among pairs order) (p, j) goes

  -- an import after another on a way
  pub on_way-more : (order : List ℕ) (end : Option (Result (Option Target) BindRefusal)) (p j q e k : ℕ) → IsOnWay pairs order end (p, j) → hop pairs p j ≡ Ok (through q e k) → Contains order q → k < import_count pairs q → IsOnWay pairs order end (q, k)
  on_way-more order end p j q e k on is there under = record { place = there; import = under; leads = led-through p j q e k is ∙ on.leads }
