-- Where the refusal of a closure comes from: a fragment that isn't read, a library entry, an import, or the order of
-- initialization.
use Rattle.std.proofs.Common.{◌≡◌, ℕ, zero, suc, ◌+◌, ◌<◌, Bool, true, false, List, [], ◌∷◌, length, Option, None, Some, Ok, Err, refl}
use Rattle.std.specs.Prelude.{⊤, Result}
use Rattle.std.specs.Option.{option_map_or, option_or}
use Rattle.std.specs.Result.{result_err}
use Rattle.pef_format.specs.declared.place.Part.TheVariants as part
use Rattle.pef_format.specs.declared.place.Place.{Place}
use Rattle.pef_words.specs.Refusals.{first_among, unless}
use Rattle.pef_words.specs.Results.{◌>>=◌}
use Rattle.cfm_store.specs.Stores.{Pair, pair_of}
use Rattle.cfm_closure.specs.Closures.{Closed, closed_of, first_refused, import_refusal, imports_refusal}
use Rattle.cfm_closure.specs.Faults.{BindRefusal, init_loop, reexport_loop}
use Rattle.cfm_closure.specs.Fragments.{fragment_of, import_count, import_place, place_at}
use Rattle.cfm_closure.specs.Initialization.{awaited, first_left, init_order_of, next_ready, take_next, take_ready, taken_all}
use Rattle.cfm_closure.specs.Libraries.{bound_to}
use Rattle.cfm_closure.specs.Targets.{Hop, ends, exports_in, follow, followed, hop, symbol_of, target_of, through}
use Rattle.cfm_closure.specs.Walk.{Walked, is_marked, joining, marking, order_of, unwalked, walk, walk_at, walk_to, walks_from}
use Rattle.cfm_closure.specs.declared.targets.Target.{Target}
use Rattle.cfm_stubs.proofs.EntryLemmas.{bound-below}

-- a fact of each refusal on the way to a closure
pub record Origins (pairs : List Pair) (T : BindRefusal → Type 0) : Type 0 where
  pub bytes : (p : ℕ) (r : BindRefusal) → p < length pairs → fragment_of pairs p ≡ Err r → T r
  pub entry : (p k : ℕ) (r : BindRefusal) → p < length pairs → bound_to pairs p k ≡ Err r → T r
  pub hops : (p j : ℕ) (r : BindRefusal) → hop pairs p j ≡ Err r → T r
  pub loop : (f s : List ℕ) (place : Place) → T (reexport_loop f s place)
  pub init : (f : List ℕ) (place : Place) → T (init_loop f place)

module _ (pairs : List Pair) (T : BindRefusal → Type 0) (origins : Origins pairs T) where
  -- a fact of the refusal of a result, if there is one
  abbrev pub Ends : {A : Type 0} → Result A BindRefusal → Type 0
  Ends (Ok x) = ⊤
  Ends (Err r) = T r

  ends-then : {A B : Type 0} (r : Result A BindRefusal) (f : A → Result B BindRefusal) → Ends r → ((x : A) → r ≡ Ok x → Ends (f x)) → Ends (r >>= f)
  ends-then (Ok x) f first later = later x refl
  ends-then (Err e) f first later = first

  ends-if : {A : Type 0} (r : Result A BindRefusal) → ((e : BindRefusal) → r ≡ Err e → T e) → Ends r
  ends-if (Ok x) tells = tt
  ends-if (Err e) tells = tells e refl

  left-ends : (s : Walked) (o : Option ℕ) → Ends (taken_all pairs s o)
  left-ends s None = tt
  left-ends s (Some p) = origins.init (pair_of pairs p).name (place_at pairs p part.Library (awaited pairs s p) 20)

  take-ends : (n : ℕ) (order : List ℕ) (s : Walked) → Ends (take_ready n pairs order s)
  unfolding take_ready
  take-ends zero order s = left-ends s (first_left s order)
  take-ends (suc n) order s = next (next_ready pairs s order) (λ t. take-ends n order t)
    where
      next : (o : Option ℕ) → ((t : Walked) → Ends (take_ready n pairs order t)) → Ends (take_next (take_ready n pairs order) pairs order s o)
      next None deeper = left-ends s (first_left s order)
      next (Some p) deeper = deeper (joining p (marking p s))

  walks-end : (v : ℕ → Walked → Result Walked BindRefusal) → ((q : ℕ) (s : Walked) → q < length pairs → Ends (v q s)) → (p k n : ℕ) (s : Walked) → p < length pairs → Ends (walks_from v pairs p k n s)
  walks-end v each p k zero s inside = tt
  walks-end v each p k (suc n) s inside =
      ends-then (bound_to pairs p k) (λ q. walk_to v q s >>= walks_from v pairs p (k + 1) n) (ends-if (bound_to pairs p k) (λ r is. origins.entry p k r inside is))
      (λ q is. ends-then (walk_to v q s) (walks_from v pairs p (k + 1) n) (to q is) (λ t there. walks-end v each p (k + 1) n t inside))
    where
      to : (o : Option ℕ) → bound_to pairs p k ≡ Ok o → Ends (walk_to v o s)
      to None is = tt
      to (Some q) is = each q s (bound-below pairs p k q is)

  walk-ends : (n p : ℕ) (s : Walked) → p < length pairs → Ends (walk n pairs p s)
  unfolding walk
  walk-ends zero p s inside = tt
  walk-ends (suc n) p s inside = by (is_marked s p) (λ q t there. walk-ends n q t there)
    where
      by : (marked : Bool) → ((q : ℕ) (t : Walked) → q < length pairs → Ends (walk n pairs q t)) → Ends (walk_at (walk n pairs) pairs p s marked)
      by true deeper = tt
      by false deeper =
          ends-then (fragment_of pairs p) (λ f. walks_from (walk n pairs) pairs p 0 f.loader.header.library_count (marking p s) >>= (λ s. Ok (joining p s))) (ends-if (fragment_of pairs p) (λ r is. origins.bytes p r inside is))
          (λ f is. ends-then (walks_from (walk n pairs) pairs p 0 f.loader.header.library_count (marking p s)) (λ s. Ok (joining p s)) (walks-end (walk n pairs) deeper p 0 f.loader.header.library_count (marking p s) inside) (λ t there. tt))

  order-ends : (root : ℕ) → root < length pairs → Ends (order_of pairs root)
  unfolding order_of
  order-ends root inside = ends-then (walk (length pairs) pairs root (unwalked pairs)) (λ s. Ok s.order) (walk-ends (length pairs) root (unwalked pairs) inside) (λ s is. tt)

  -- a result, if there is one
  abbrev AnswerEnds : Option (Result (Option Target) BindRefusal) → Type 0
  AnswerEnds None = ⊤
  AnswerEnds (Some answer) = Ends answer

  hop-ends : (p j : ℕ) → Ends (hop pairs p j)
  hop-ends p j = ends-if (hop pairs p j) (λ r is. origins.hops p j r is)

  follow-ends : (n p j : ℕ) → AnswerEnds (follow n pairs p j)
  unfolding follow
  follow-ends zero p j = by (hop pairs p j) (hop-ends p j)
    where
      by : (r : Result Hop BindRefusal) → Ends r → AnswerEnds (followed (λ q k. None) r)
      by (Ok (ends t)) it = tt
      by (Ok (through q e k)) it = tt
      by (Err r) it = it
  follow-ends (suc n) p j = by (hop pairs p j) (hop-ends p j) (λ q k. follow-ends n q k)
    where
      by : (r : Result Hop BindRefusal) → Ends r → ((q k : ℕ) → AnswerEnds (follow n pairs q k)) → AnswerEnds (followed (follow n pairs) r)
      by (Ok (ends t)) it deeper = tt
      by (Ok (through q e k)) it deeper = deeper q k
      by (Err r) it deeper = it

  target-ends : (p j : ℕ) → Ends (target_of pairs p j)
  unfolding target_of
  target-ends p j = by (follow (exports_in pairs) pairs p j) (follow-ends (exports_in pairs) p j)
    where
      by : (o : Option (Result (Option Target) BindRefusal)) → AnswerEnds o → Ends (option_map_or (λ answer. answer) o (Err (reexport_loop (pair_of pairs p).name (symbol_of pairs p j) (import_place pairs p j))))
      by None it = origins.loop (pair_of pairs p).name (symbol_of pairs p j) (import_place pairs p j)
      by (Some answer) it = it

  -- a refusal that exists
  abbrev RefusalEnds : Option BindRefusal → Type 0
  RefusalEnds None = ⊤
  RefusalEnds (Some r) = T r

  or-ends : (o rest : Option BindRefusal) → RefusalEnds o → RefusalEnds rest → RefusalEnds (option_or o rest)
  or-ends None rest first later = later
  or-ends (Some r) rest first later = first

  import-ends : (p j : ℕ) → RefusalEnds (import_refusal pairs p j)
  import-ends p j = by (target_of pairs p j) (target-ends p j)
    where
      by : (r : Result (Option Target) BindRefusal) → Ends r → RefusalEnds (result_err r)
      by (Ok t) it = tt
      by (Err r) it = it

  among-ends : (p from n : ℕ) → RefusalEnds (first_among (import_refusal pairs p) from n)
  among-ends p from zero = tt
  among-ends p from (suc n) = or-ends (import_refusal pairs p from) (first_among (import_refusal pairs p) (from + 1) n) (import-ends p from) (among-ends p (from + 1) n)

  imports-end : (order : List ℕ) → RefusalEnds (first_refused pairs order)
  imports-end [] = tt
  imports-end (p ∷ order) = or-ends (imports_refusal pairs p) (first_refused pairs order) (among-ends p 0 (import_count pairs p)) (imports-end order)

  abbrev with_order : List ℕ → List ℕ → Closed
  with_order order init_order = record { pairs = pairs; order = order; init_order = init_order }

  -- the steps after a closure order
  abbrev behind : List ℕ → Option BindRefusal → Result Closed BindRefusal
  behind order refusal = unless refusal (init_order_of pairs order >>= (λ init_order. Ok (with_order order init_order)))

  init-ends : (order : List ℕ) → Ends (init_order_of pairs order)
  unfolding init_order_of
  init-ends order = take-ends (length order) order (unwalked pairs)

  after-ends : (order : List ℕ) (refusal : Option BindRefusal) → RefusalEnds refusal → Ends (behind order refusal)
  after-ends order None it = ends-then (init_order_of pairs order) (λ init_order. Ok (with_order order init_order)) (init-ends order) (λ init_order is. tt)
  after-ends order (Some r) it = it

  pub closed-ends : (root : ℕ) → root < length pairs → Ends (closed_of pairs root)
  unfolding closed_of
  closed-ends root inside = ends-then (order_of pairs root) (λ order. behind order (first_refused pairs order)) (order-ends root inside) (λ order is. after-ends order (first_refused pairs order) (imports-end order))
