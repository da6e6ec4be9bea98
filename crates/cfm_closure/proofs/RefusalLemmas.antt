-- Facts of each refusal on the way to a closure: of those of fragments' bytes, of libraries, of symbols and
-- of the order of initialization.
use Rattle.std.proofs.Common.{◌≡◌, ℕ, zero, suc, ◌+◌, ◌<◌, Bool, true, false, cond, List, [], ◌∷◌, length, Option, None, Some, Ok, Err, refl, subst, inl, inr}
use Rattle.std.specs.Prelude.{◌⊎◌, ⊤, Result}
use Rattle.std.specs.Option.{option_and_then, option_map_or, option_or}
use Rattle.std.specs.Result.{result_err}
use Rattle.pef_format.specs.Exports.{Export}
use Rattle.pef_format.specs.Symbols.{Import, options_of}
use Rattle.pef_format.specs.declared.place.Part.TheVariants as part
use Rattle.pef_format.specs.declared.place.Place.{Place}
use Rattle.pef_loader.specs.Faults.{fault_place as loader_fault_place}
use Rattle.pef_loader.specs.Library.{Library}
use Rattle.pef_loader.specs.Loader.{Loaded, library_of, loaded_of}
use Rattle.pef_loader.specs.declared.fault.LoaderFault.{LoaderFault}
use Rattle.pef_views.specs.Container.{Contained, container_of}
use Rattle.pef_views.specs.declared.fault.ViewFault.{ViewFault}
use Rattle.pef_words.specs.Refusals.{first_among, unless}
use Rattle.cfm_closure.specs.declared.versions.Definition.{Definition}
use Rattle.cfm_closure.specs.declared.versions.Implementation.{Implementation}
use Rattle.cfm_closure.specs.declared.versions.Fit.{Fit}
use Rattle.cfm_closure.specs.declared.versions.Fit.TheVariants.{Fits, TooOld, TooNew}
use Rattle.cfm_store.specs.Stores.{Pair, pair_of, place_of}
use Rattle.cfm_store.proofs.Laws.{place_of-below, place_of-first}
use Rattle.cfm_closure.specs.Faults.{BindRefusal, implementation_too_new, implementation_too_old, init_loop, library_missing, no_container, no_loader, reexport_loop, symbol_missing}
use Rattle.cfm_closure.specs.Fragments.{Fragment, fragment_of, import_at, import_count, import_place, loader_at, part_place, place_at, with_container, with_loader}
use Rattle.cfm_closure.specs.Libraries.{absent_or, bound, bound_at, bound_by, bound_to, definition_of, fit_with, implementation_of, library_at}
use Rattle.cfm_closure.specs.Walk.{Walked, is_marked, joining, marking, order_of, unwalked, walk, walk_at, walk_to, walks_from}
use Rattle.cfm_closure.proofs.BoundLemmas.{stands_for}
use Rattle.pef_words.specs.Results.{◌>>=◌}
use Rattle.cfm_closure.specs.declared.targets.Target.{Target}
use Rattle.cfm_closure.specs.Closures.{Closed, closed_of, first_refused, import_refusal, imports_refusal}
use Rattle.cfm_closure.specs.Initialization.{awaited, first_left, init_order_of, next_ready, take_next, take_ready, taken_all}
use Rattle.cfm_closure.specs.Targets.{Hop, ends, exported, exports_in, follow, followed, hop, hop_from, hop_of, hop_to, symbol_of, target_of, through}

-- a refusal of a fragment is one of its bytes, and has its name
abbrev pub IsNamed : List ℕ → BindRefusal → Type 0
IsNamed name (no_container f v) = name ≡ f
IsNamed name (no_loader f v place) = name ≡ f
IsNamed name (library_missing f l place) = ⊥
IsNamed name (symbol_missing f l s place) = ⊥
IsNamed name (implementation_too_old f l place needed found) = ⊥
IsNamed name (implementation_too_new f l place needed found) = ⊥
IsNamed name (reexport_loop f s place) = ⊥
IsNamed name (init_loop f place) = ⊥

loader-named : (name : List ℕ) (c : Contained) (l : Result Loaded LoaderFault) (r : BindRefusal) → with_loader name c l ≡ Err r → IsNamed name r
loader-named name c (Ok l) r is = absurd (cc)
loader-named name c (Err fault) r is = let same : no_loader name fault (loader_fault_place c fault) ≡ r = cc in subst (IsNamed name) same refl

container-named : (name : List ℕ) (c : Result Contained ViewFault) (r : BindRefusal) → with_container name c ≡ Err r → IsNamed name r
container-named name (Ok c) r is = loader-named name c (loaded_of c.header.instantiated_section_count c.loader) r is
container-named name (Err fault) r is = let same : no_container name fault ≡ r = cc in subst (IsNamed name) same refl

pub fragment-named : (pairs : List Pair) (p : ℕ) (r : BindRefusal) → fragment_of pairs p ≡ Err r → IsNamed (pair_of pairs p).name r
unfolding fragment_of
fragment-named pairs p r is = container-named (pair_of pairs p).name (container_of (pair_of pairs p).bytes) r is

module _ (pairs : List Pair) (root : ℕ) where
  -- a fragment that a walk can visit: the root, or the first with its name
  pub record IsMet (p : ℕ) : Type 0 where
    pub inside : p < length pairs
    pub found : (p ≡ root) ⊎ (place_of pairs (pair_of pairs p).name ≡ Some p)

  pub root-met : root < length pairs → IsMet root
  root-met inside = record { inside = inside; found = inl refl }

  pub library-met : (p l q : ℕ) → bound_to pairs p l ≡ Ok (Some q) → IsMet q
  library-met p l q is = let s = stands_for pairs p l q is in record { inside = s.inside; found = inr s.first }

  -- a fact of each refusal except that of an endless import
  pub record Covers (T : BindRefusal → Type 0) : Type 0 where
    pub library : (f l : List ℕ) (place : Place) → T (library_missing f l place)
    pub symbol : (f l s : List ℕ) (place : Place) → T (symbol_missing f l s place)
    pub too_old : (f l : List ℕ) (place : Place) (needed : Definition) (found : Implementation) → T (implementation_too_old f l place needed found)
    pub too_new : (f l : List ℕ) (place : Place) (needed : Definition) (found : Implementation) → T (implementation_too_new f l place needed found)
    pub init : (f : List ℕ) (place : Place) → T (init_loop f place)
    pub bytes : (p : ℕ) (r : BindRefusal) → IsMet p → fragment_of pairs p ≡ Err r → T r

  module _ (T : BindRefusal → Type 0) (covers : Covers T) where
    -- a fact of the refusal of a result, if there is one
    abbrev pub Binds : {A : Type 0} → Result A BindRefusal → Type 0
    Binds (Ok x) = ⊤
    Binds (Err r) = T r

    -- .. and so of those of the next step
    binds-then : {A B : Type 0} (r : Result A BindRefusal) (f : A → Result B BindRefusal) → Binds r → ((x : A) → r ≡ Ok x → Binds (f x)) → Binds (r >>= f)
    binds-then (Ok x) f first later = later x refl
    binds-then (Err e) f first later = first

    absent-binds : (weak : Bool) (r : BindRefusal) → T r → Binds (absent_or weak r)
    absent-binds true r of = tt
    absent-binds false r of = of

    fit-binds : (fit : Fit) (f : Fragment) (i : ℕ) (l : Library) (g : Fragment) (q : ℕ) → Binds (bound_by fit f i l g q)
    fit-binds Fits f i l g q = tt
    fit-binds TooOld f i l g q =
        absent-binds (options_of l.fields.options).weak (implementation_too_old f.name l.name (part_place f part.Library i 4) (definition_of l) (implementation_of g))
        (covers.too_old f.name l.name (part_place f part.Library i 4) (definition_of l) (implementation_of g))
    fit-binds TooNew f i l g q =
        absent-binds (options_of l.fields.options).weak (implementation_too_new f.name l.name (part_place f part.Library i 4) (definition_of l) (implementation_of g))
        (covers.too_new f.name l.name (part_place f part.Library i 4) (definition_of l) (implementation_of g))

    take-binds : (n : ℕ) (order : List ℕ) (s : Walked) → Binds (take_ready n pairs order s)
    unfolding take_ready
    take-binds zero order s = by (first_left s order)
      where
        by : (o : Option ℕ) → Binds (taken_all pairs s o)
        by None = tt
        by (Some p) = covers.init (pair_of pairs p).name (place_at pairs p part.Library (awaited pairs s p) 20)
    take-binds (suc n) order s = next (next_ready pairs s order) (λ t. take-binds n order t)
      where
        by : (o : Option ℕ) → Binds (taken_all pairs s o)
        by None = tt
        by (Some p) = covers.init (pair_of pairs p).name (place_at pairs p part.Library (awaited pairs s p) 20)

        next : (o : Option ℕ) → ((t : Walked) → Binds (take_ready n pairs order t)) → Binds (take_next (take_ready n pairs order) pairs order s o)
        next None deeper = by (first_left s order)
        next (Some p) deeper = deeper (joining p (marking p s))

    fragment-binds : (p : ℕ) → IsMet p → Binds (fragment_of pairs p)
    fragment-binds p met = by (fragment_of pairs p) refl
      where
        by : (r : Result Fragment BindRefusal) → fragment_of pairs p ≡ r → Binds r
        by (Ok f) is = tt
        by (Err r) is = covers.bytes p r met is

    library-binds : (f : Fragment) (i : ℕ) (l : Library) → Binds (bound pairs f i l)
    unfolding bound
    library-binds f i l = by (place_of pairs l.name) refl
      where
        met : (q : ℕ) → place_of pairs l.name ≡ Some q → IsMet q
        met q was = record { inside = place_of-below pairs l.name q was; found = inr (place_of-first pairs l.name q was) }

        by : (o : Option ℕ) → place_of pairs l.name ≡ o → Binds (bound_at pairs f i l o)
        by None was = absent-binds (options_of l.fields.options).weak (library_missing f.name l.name (part_place f part.Library i 0)) (covers.library f.name l.name (part_place f part.Library i 0))
        by (Some q) was = binds-then (fragment_of pairs q) (λ g. bound_by (fit_with l g) f i l g q) (fragment-binds q (met q was)) (λ g is. fit-binds (fit_with l g) f i l g q)

    entry-binds : (p l : ℕ) → IsMet p → Binds (bound_to pairs p l)
    unfolding bound_to
    entry-binds p l met = binds-then (fragment_of pairs p) (λ f. option_map_or (bound pairs f l) (library_of f.loader l) (Ok None)) (fragment-binds p met) (λ f is. by f (library_of f.loader l))
      where
        by : (f : Fragment) (o : Option Library) → Binds (option_map_or (bound pairs f l) o (Ok None))
        by f None = tt
        by f (Some x) = library-binds f l x

    walks-bind : (v : ℕ → Walked → Result Walked BindRefusal) → ((q : ℕ) (s : Walked) → IsMet q → Binds (v q s)) → (p l n : ℕ) (s : Walked) → IsMet p → Binds (walks_from v pairs p l n s)
    walks-bind v each p l zero s met = tt
    walks-bind v each p l (suc n) s met =
        binds-then (bound_to pairs p l) (λ q. walk_to v q s >>= walks_from v pairs p (l + 1) n) (entry-binds p l met)
        (λ q is. binds-then (walk_to v q s) (walks_from v pairs p (l + 1) n) (to q is) (λ t there. walks-bind v each p (l + 1) n t met))
      where
        to : (o : Option ℕ) → bound_to pairs p l ≡ Ok o → Binds (walk_to v o s)
        to None is = tt
        to (Some q) is = each q s (library-met p l q is)

    walk-binds : (n p : ℕ) (s : Walked) → IsMet p → Binds (walk n pairs p s)
    unfolding walk
    walk-binds zero p s met = tt
    walk-binds (suc n) p s met = by (is_marked s p) (λ q t there. walk-binds n q t there)
      where
        by : (marked : Bool) → ((q : ℕ) (t : Walked) → IsMet q → Binds (walk n pairs q t)) → Binds (walk_at (walk n pairs) pairs p s marked)
        by true deeper = tt
        by false deeper =
            binds-then (fragment_of pairs p) (λ f. walks_from (walk n pairs) pairs p 0 f.loader.header.library_count (marking p s) >>= (λ s. Ok (joining p s))) (fragment-binds p met)
            (λ f is. binds-then (walks_from (walk n pairs) pairs p 0 f.loader.header.library_count (marking p s)) (λ s. Ok (joining p s)) (walks-bind (walk n pairs) deeper p 0 f.loader.header.library_count (marking p s) met) (λ t there. tt))

    pub order-binds : root < length pairs → Binds (order_of pairs root)
    unfolding order_of
    order-binds inside = binds-then (walk (length pairs) pairs root (unwalked pairs)) (λ s. Ok s.order) (walk-binds (length pairs) root (unwalked pairs) (root-met inside)) (λ s is. tt)

    hop-binds : (p j : ℕ) → Binds (hop pairs p j)
    unfolding hop
    hop-binds p j = of (import_at pairs p j)
      where
        weak : (b : Bool) (r : BindRefusal) → T r → Binds {A = Hop} (cond b (Ok (ends None)) (Err r))
        weak true r is = tt
        weak false r is = is

        to : (q : ℕ) (i : Import) (o : Option (ℕ × Export)) → Binds (hop_to (pair_of pairs p).name (pair_of pairs q).name (import_place pairs p j) i q o)
        to q i None =
            weak i.fields.weak (symbol_missing (pair_of pairs p).name (pair_of pairs q).name i.name (import_place pairs p j)) (covers.symbol (pair_of pairs p).name (pair_of pairs q).name i.name (import_place pairs p j))
        to q i (Some x) = tt

        from : (i : Import) (o : Option ℕ) → Binds (hop_from pairs p j i o)
        from i None = tt
        from i (Some q) = to q i (option_and_then (exported i.name) (loader_at pairs q))

        of : (o : Option Import) → Binds (hop_of pairs p j o)
        of None = tt
        of (Some i) = from i (library_at pairs p i.library)

    -- a result, if there is one
    abbrev pub AnswerBinds : Option (Result (Option Target) BindRefusal) → Type 0
    AnswerBinds None = ⊤
    AnswerBinds (Some answer) = Binds answer

    pub follow-binds : (n p j : ℕ) → AnswerBinds (follow n pairs p j)
    unfolding follow
    follow-binds zero p j = by (hop pairs p j) (hop-binds p j)
      where
        by : (r : Result Hop BindRefusal) → Binds r → AnswerBinds (followed (λ q k. None) r)
        by (Ok (ends t)) binds = tt
        by (Ok (through q e k)) binds = tt
        by (Err r) binds = binds
    follow-binds (suc n) p j = by (hop pairs p j) (hop-binds p j) (λ q k. follow-binds n q k)
      where
        by : (r : Result Hop BindRefusal) → Binds r → ((q k : ℕ) → AnswerBinds (follow n pairs q k)) → AnswerBinds (followed (follow n pairs) r)
        by (Ok (ends t)) binds deeper = tt
        by (Ok (through q e k)) binds deeper = deeper q k
        by (Err r) binds deeper = binds

    pub ordered-binds : (order : List ℕ) → Binds (init_order_of pairs order)
    unfolding init_order_of
    ordered-binds order = take-binds (length order) order (unwalked pairs)

    -- .. and of that of such an import too
    module _ (loop : (p j : ℕ) → T (reexport_loop (pair_of pairs p).name (symbol_of pairs p j) (import_place pairs p j))) where
      target-binds : (p j : ℕ) → Binds (target_of pairs p j)
      unfolding target_of
      target-binds p j = by (follow (exports_in pairs) pairs p j) (follow-binds (exports_in pairs) p j)
        where
          by : (o : Option (Result (Option Target) BindRefusal)) → AnswerBinds o → Binds (option_map_or (λ answer. answer) o (Err (reexport_loop (pair_of pairs p).name (symbol_of pairs p j) (import_place pairs p j))))
          by None binds = loop p j
          by (Some answer) binds = binds

      -- a refusal that exists
      abbrev RefusalBinds : Option BindRefusal → Type 0
      RefusalBinds None = ⊤
      RefusalBinds (Some r) = T r

      or-binds : (o rest : Option BindRefusal) → RefusalBinds o → RefusalBinds rest → RefusalBinds (option_or o rest)
      or-binds None rest first later = later
      or-binds (Some r) rest first later = first

      import-binds : (p j : ℕ) → RefusalBinds (import_refusal pairs p j)
      import-binds p j = by (target_of pairs p j) (target-binds p j)
        where
          by : (r : Result (Option Target) BindRefusal) → Binds r → RefusalBinds (result_err r)
          by (Ok t) binds = tt
          by (Err r) binds = binds

      among-binds : (p from n : ℕ) → RefusalBinds (first_among (import_refusal pairs p) from n)
      among-binds p from zero = tt
      among-binds p from (suc n) = or-binds (import_refusal pairs p from) (first_among (import_refusal pairs p) (from + 1) n) (import-binds p from) (among-binds p (from + 1) n)

      imports-bind : (order : List ℕ) → RefusalBinds (first_refused pairs order)
      imports-bind [] = tt
      imports-bind (p ∷ order) = or-binds (imports_refusal pairs p) (first_refused pairs order) (among-binds p 0 (import_count pairs p)) (imports-bind order)

      abbrev with_order : List ℕ → List ℕ → Closed
      with_order order init_order = record { pairs = pairs; order = order; init_order = init_order }

      -- the steps after a closure order
      abbrev behind : List ℕ → Option BindRefusal → Result Closed BindRefusal
      behind order refusal = unless refusal (init_order_of pairs order >>= (λ init_order. Ok (with_order order init_order)))

      after-binds : (order : List ℕ) (refusal : Option BindRefusal) → RefusalBinds refusal → Binds (behind order refusal)
      after-binds order None binds = binds-then (init_order_of pairs order) (λ init_order. Ok (with_order order init_order)) (ordered-binds order) (λ init_order is. tt)
      after-binds order (Some r) binds = binds

      pub closed-binds : root < length pairs → Binds (closed_of pairs root)
      unfolding closed_of
      closed-binds inside = binds-then (order_of pairs root) (λ order. behind order (first_refused pairs order)) (order-binds inside) (λ order is. after-binds order (first_refused pairs order) (imports-bind order))
