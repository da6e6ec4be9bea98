-- Facts of closures.
use Rattle.std.proofs.Common.{◌≡◌, ℕ, ◌<◌, List, [], ◌∷◌, length, Option, None, Ok, Err, refl, sym, ap, ◌∙◌, subst, inl, inr, arith, Contains}
use Rattle.std.specs.Prelude.{Result, ◌↔◌}
use Rattle.std.specs.Option.{option_map_or}
use Rattle.std.specs.Result.{result_err}
use Rattle.pef_words.specs.Refusals.{unless}
use Rattle.pef_words.proofs.Laws.Refusals.{neither, none_among, unless_ok}
use Rattle.cfm_store.specs.Stores.{Pair, pair_of}
use Rattle.cfm_closure.specs.Faults.{BindRefusal, reexport_loop}
use Rattle.cfm_closure.specs.Fragments.{import_count, import_place}
use Rattle.cfm_closure.specs.Orders.{EndsWith, IsComplete}
use Rattle.cfm_closure.specs.Walk.{order_of}
use Rattle.cfm_closure.proofs.OrderFacts.{order-complete, order-last}
use Rattle.cfm_closure.proofs.WalkRules.{came, same_ok}
use Rattle.pef_words.specs.Results.{◌>>=◌}
use Rattle.cfm_closure.specs.declared.targets.Target.{Target}
use Rattle.cfm_closure.specs.Closures.{Closed, closed_of, first_refused, import_refusal, imports_refusal}
use Rattle.cfm_closure.specs.Initialization.{init_order_of}
use Rattle.cfm_closure.specs.Promises.{HasTarget, target_within}
use Rattle.cfm_closure.specs.Reexports.{MeetsAgain}
use Rattle.cfm_closure.specs.Targets.{exports_among, follow, symbol_of, target_of}
use Rattle.cfm_closure.proofs.LoopLemmas.{again_in_store, follow-order, for_ever}
use Rattle.cfm_closure.proofs.Ranks.{contains_cases}

-- the parts of a closure
pub record IsClosed (pairs : List Pair) (root : ℕ) (c : Closed) : Type 0 where
  pub store : c.pairs ≡ pairs
  pub order : order_of pairs root ≡ Ok c.order
  pub passes : first_refused pairs c.order ≡ None
  pub init_order : init_order_of pairs c.order ≡ Ok c.init_order

pub is_closed : (pairs : List Pair) (root : ℕ) (c : Closed) → closed_of pairs root ≡ Ok c → IsClosed pairs root c
unfolding closed_of
is_closed pairs root c is =
    let a = came (order_of pairs root) (λ order. unless (first_refused pairs order) (init_order_of pairs order >>= (λ init_order. Ok (record { pairs = pairs; order = order; init_order = init_order })))) c is in
    let b = unless_ok (first_refused pairs a.value) (init_order_of pairs a.value >>= (λ init_order. Ok (record { pairs = pairs; order = a.value; init_order = init_order }))) c a.leads in
    let d = came (init_order_of pairs a.value) (λ init_order. Ok (record { pairs = pairs; order = a.value; init_order = init_order })) c b.1 in
    let whole : Closed = record { pairs = pairs; order = a.value; init_order = d.value } in
    let same = same_ok (Ok whole) whole c refl d.leads in
    subst (IsClosed pairs root) same (record { store = refl; order = a.is; passes = b.0; init_order = d.is })

-- the parts of a closure make it
pub closed-made : (pairs : List Pair) (root : ℕ) (order init_order : List ℕ) → order_of pairs root ≡ Ok order → first_refused pairs order ≡ None → init_order_of pairs order ≡ Ok init_order → closed_of pairs root ≡ Ok (record { pairs = pairs; order = order; init_order = init_order })
unfolding closed_of
closed-made pairs root order init_order walked passes taken =
    ap (λ r. r >>= (λ order. unless (first_refused pairs order) (init_order_of pairs order >>= (λ init_order. Ok (record { pairs = pairs; order = order; init_order = init_order }))))) walked
    ∙ ap (λ o. unless o (init_order_of pairs order >>= (λ init_order. Ok (record { pairs = pairs; order = order; init_order = init_order })))) passes
    ∙ ap (λ r. r >>= (λ init_order. Ok (record { pairs = pairs; order = order; init_order = init_order }))) taken

pub closed-order : (pairs : List Pair) (root : ℕ) (c : Closed) → closed_of pairs root ≡ Ok c → order_of pairs root ≡ Ok c.order
closed-order pairs root c is = (is_closed pairs root c is).order

pub closed-init_order : (pairs : List Pair) (root : ℕ) (c : Closed) → closed_of pairs root ≡ Ok c → init_order_of pairs c.order ≡ Ok c.init_order
closed-init_order pairs root c is = (is_closed pairs root c is).init_order

pub closed-store : (pairs : List Pair) (root : ℕ) (c : Closed) → closed_of pairs root ≡ Ok c → c.pairs ≡ pairs
closed-store pairs root c is = (is_closed pairs root c is).store

pub closed-complete : (pairs : List Pair) (root : ℕ) (c : Closed) → closed_of pairs root ≡ Ok c → IsComplete pairs c.order
closed-complete pairs root c is = order-complete pairs root c.order (is_closed pairs root c is).order

pub closed-root : (pairs : List Pair) (root : ℕ) (c : Closed) → root < length pairs → closed_of pairs root ≡ Ok c → EndsWith c.order root
closed-root pairs root c inside is = order-last pairs root c.order (is_closed pairs root c is).order inside

-- if no import is refused, none of a fragment's is
passes-of : (pairs : List Pair) (order : List ℕ) (p : ℕ) → first_refused pairs order ≡ None → Contains order p → imports_refusal pairs p ≡ None
passes-of pairs [] p none there = absurd (let h = there.1 in omega arith)
passes-of pairs (q ∷ order) p none there =
    let both = neither (imports_refusal pairs q) (first_refused pairs order) none in
    elim (contains_cases q order p there) [
      | inl same ↦ (let P : ℕ → Type 0 = λ q. imports_refusal pairs q ≡ None in subst P same both.0)
      | inr later ↦ passes-of pairs order p both.1 later
    ]

pub not_refused : {A : Type 0} (r : Result A BindRefusal) → result_err r ≡ None → (x : A) × (r ≡ Ok x)
not_refused (Ok x) none = (x, refl)
not_refused (Err e) none = absurd (cc)

-- so each import has a target, or none
pub closed-target : (pairs : List Pair) (root : ℕ) (c : Closed) (p j : ℕ) → closed_of pairs root ≡ Ok c → Contains c.order p → j < import_count pairs p → HasTarget pairs p j
closed-target pairs root c p j is there under =
    let none = passes-of pairs c.order p (is_closed pairs root c is).passes there in
    not_refused (target_of pairs p j) (none_among (import_refusal pairs p) 0 (import_count pairs p) j none (omega arith) (omega arith))

-- the exports of a closure are enough hops
pub own-target : (pairs : List Pair) (root : ℕ) (c : Closed) (p j : ℕ) → closed_of pairs root ≡ Ok c → Contains c.order p → target_within pairs c.order p j ≡ target_of pairs p j
unfolding target_of
own-target pairs root c p j is there =
    ap (λ o. option_map_or (λ (answer : Result (Option Target) BindRefusal). answer) o (Err (reexport_loop (pair_of pairs p).name (symbol_of pairs p j) (import_place pairs p j))))
    (follow-order pairs c.order (closed-complete pairs root c is) p j there)

pub same-targets : (pairs : List Pair) (root root' : ℕ) (c c' : Closed) (p j : ℕ) → closed_of pairs root ≡ Ok c → closed_of pairs root' ≡ Ok c' → Contains c.order p → Contains c'.order p → target_within pairs c.order p j ≡ target_within pairs c'.order p j
same-targets pairs root root' c c' p j is is' there there' = own-target pairs root c p j is there ∙ sym (own-target pairs root' c' p j is' there')

-- if there are more hops than exports, an export is visited again
pub endless : (pairs : List Pair) (order : List ℕ) (p j : ℕ) → IsComplete pairs order → Contains order p → (follow (exports_among pairs order) pairs p j ≡ None) ↔ MeetsAgain pairs (p, j)
endless pairs order p j complete there = (
  (λ none. again_in_store pairs (p, j) (sym (follow-order pairs order complete p j there) ∙ none)),
  (λ again. for_ever pairs (p, j) (exports_among pairs order) again),
)
