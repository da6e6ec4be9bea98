-- A closure is refused for an endless import exactly if there is one before which no import is refused.
use Rattle.std.proofs.Common.{◌≡◌, ℕ, suc, ◌+◌, ◌<◌, List, [], ◌∷◌, ◌++◌, length, Option, None, Some, Ok, Err, refl, ap, ap₂, ◌∙◌, subst, inl, inr, arith, Contains}
use Rattle.std.specs.Prelude.{◌↔◌, ⊤, Result}
use Rattle.std.specs.Option.{option_map_or, option_or}
use Rattle.std.specs.Result.{result_err}
use Rattle.pef_words.specs.Refusals.{unless}
use Rattle.pef_words.specs.Results.{◌>>=◌}
use Rattle.pef_words.proofs.Laws.Refusals.{first_among-at, first_among-none, none_among, some_among}
use Rattle.pef_format.specs.declared.place.Place.{Place}
use Rattle.cfm_store.specs.Stores.{Pair, pair_of}
use Rattle.cfm_closure.specs.Faults.{BindRefusal, implementation_too_new, implementation_too_old, init_loop, library_missing, no_container, no_loader, reexport_loop, symbol_missing}
use Rattle.cfm_closure.specs.Fragments.{import_count, import_place}
use Rattle.cfm_closure.specs.Walk.{order_of}
use Rattle.cfm_closure.specs.declared.targets.Target.{Target}
use Rattle.cfm_closure.specs.Closures.{Closed, closed_of, first_refused, import_refusal, imports_refusal}
use Rattle.cfm_closure.specs.Initialization.{init_order_of}
use Rattle.cfm_closure.specs.Promises.{HasTarget, IsEndless}
use Rattle.cfm_closure.specs.Reexports.{MeetsAgain}
use Rattle.cfm_closure.specs.Targets.{exports_in, follow, symbol_of, target_of}
use Rattle.cfm_closure.proofs.ClosedLemmas.{not_refused}
use Rattle.cfm_closure.proofs.LoopLemmas.{again_in_store, for_ever}
use Rattle.cfm_closure.proofs.Ranks.{contains_cases}
use Rattle.cfm_closure.proofs.RefusalLemmas.{AnswerBinds, Binds, Covers, IsNamed, follow-binds, fragment-named, order-binds, ordered-binds}

-- a refusal of another kind
abbrev IsOther : BindRefusal → Type 0
IsOther (no_container f v) = ⊤
IsOther (no_loader f v place) = ⊤
IsOther (library_missing f l place) = ⊤
IsOther (symbol_missing f l s place) = ⊤
IsOther (implementation_too_old f l place needed found) = ⊤
IsOther (implementation_too_new f l place needed found) = ⊤
IsOther (reexport_loop f s place) = ⊥
IsOther (init_loop f place) = ⊤

other-bytes : (name : List ℕ) (r : BindRefusal) → IsNamed name r → IsOther r
other-bytes name (no_container f v) named = tt
other-bytes name (no_loader f v place) named = tt
other-bytes name (library_missing f l place) named = tt
other-bytes name (symbol_missing f l s place) named = tt
other-bytes name (implementation_too_old f l place needed found) named = tt
other-bytes name (implementation_too_new f l place needed found) named = tt
other-bytes name (reexport_loop f s place) named = named
other-bytes name (init_loop f place) named = tt

all_others : (pairs : List Pair) (root : ℕ) → Covers pairs root IsOther
all_others pairs root = record {
  library = λ f l place. tt;
  symbol = λ f l s place. tt;
  too_old = λ f l place needed found. tt;
  too_new = λ f l place needed found. tt;
  init = λ f place. tt;
  bytes = λ p r met is. other-bytes (pair_of pairs p).name r (fragment-named pairs p r is);
}

contains_first : (q : ℕ) (ps : List ℕ) → Contains (q ∷ ps) q
contains_first q ps = (0, omega arith, refl)

contains_later : (q : ℕ) (ps : List ℕ) (r : ℕ) → Contains ps r → Contains (q ∷ ps) r
contains_later q ps r (k, under, is) = (suc k, omega arith, is)

module _ (pairs : List Pair) (root : ℕ) (fragment symbol : List ℕ) (place : Place) where
  -- an import with these names, in this place, visits an export again
  record IsLoop (p j : ℕ) : Type 0 where
    pub name : (pair_of pairs p).name ≡ fragment
    pub import_name : symbol_of pairs p j ≡ symbol
    pub there : import_place pairs p j ≡ place
    pub again : MeetsAgain pairs (p, j)

  is_loop : (p j : ℕ) → target_of pairs p j ≡ Err (reexport_loop fragment symbol place) → IsLoop p j
  unfolding target_of
  is_loop p j is = by (follow (exports_in pairs) pairs p j) refl (follow-binds pairs root IsOther (all_others pairs root) (exports_in pairs) p j) is
    where
      by : (o : Option (Result (Option Target) BindRefusal)) → follow (exports_in pairs) pairs p j ≡ o → AnswerBinds pairs root IsOther (all_others pairs root) o
          → option_map_or (λ answer. answer) o (Err (reexport_loop (pair_of pairs p).name (symbol_of pairs p j) (import_place pairs p j))) ≡ Err (reexport_loop fragment symbol place) → IsLoop p j
      by None was other is = record { name = cc; import_name = cc; there = cc; again = again_in_store pairs (p, j) was }
      by (Some answer) was other is = absurd (subst (Binds pairs root IsOther (all_others pairs root)) is other)

  loops : (p j : ℕ) → IsLoop p j → target_of pairs p j ≡ Err (reexport_loop fragment symbol place)
  unfolding target_of
  loops p j is =
      ap (λ o. option_map_or (λ (answer : Result (Option Target) BindRefusal). answer) o (Err (reexport_loop (pair_of pairs p).name (symbol_of pairs p j) (import_place pairs p j)))) (for_ever pairs (p, j) (exports_in pairs) is.again)
      ∙ ap₂ (λ f s. Err (reexport_loop f s (import_place pairs p j))) is.name is.import_name
      ∙ ap (λ place. Err (reexport_loop fragment symbol place)) is.there

  -- an import of an order that does, before which none is refused
  record FirstLoop (order : List ℕ) : Type 0 where
    pub before : List ℕ
    pub position : ℕ
    pub later : List ℕ
    pub whole : order ≡ before ++ position ∷ later
    pub index : ℕ
    pub below : index < import_count pairs position
    pub is : IsLoop position index
    pub earlier : (p j : ℕ) → Contains before p → j < import_count pairs p → HasTarget pairs p j
    pub first : (j : ℕ) → j < index → HasTarget pairs position j

  error_is : {A : Type 0} (r : Result A BindRefusal) (x : BindRefusal) → result_err r ≡ Some x → r ≡ Err x
  error_is (Ok a) x is = absurd (cc)
  error_is (Err e) x is = cc

  first_loop : (order : List ℕ) → first_refused pairs order ≡ Some (reexport_loop fragment symbol place) → FirstLoop order
  first_loop [] is = absurd (cc)
  first_loop (p ∷ order) is = by (imports_refusal pairs p) refl is (first_loop order)
    where
      here : imports_refusal pairs p ≡ Some (reexport_loop fragment symbol place) → FirstLoop (p ∷ order)
      here refused =
          let a = some_among (import_refusal pairs p) 0 (import_count pairs p) (reexport_loop fragment symbol place) refused in
          let high = a.high in
          record {
            before = [];
            position = p;
            later = order;
            whole = refl;
            index = a.at;
            below = omega arith;
            is = is_loop p a.at (error_is (target_of pairs p a.at) (reexport_loop fragment symbol place) a.is);
            earlier = λ q j there under. absurd (let h = there.1 in omega arith);
            first = λ j under. not_refused (target_of pairs p j) (a.before j (omega arith) under);
          }

      further : imports_refusal pairs p ≡ None → FirstLoop order → FirstLoop (p ∷ order)
      further none f = record {
        before = p ∷ f.before;
        position = f.position;
        later = f.later;
        whole = ap (λ ps. p ∷ ps) f.whole;
        index = f.index;
        below = f.below;
        is = f.is;
        earlier = λ q j there under. elim (contains_cases p f.before q there) [
          | inl same ↦ (let P : ℕ → Type 0 = λ p. imports_refusal pairs p ≡ None in
              not_refused (target_of pairs q j) (none_among (import_refusal pairs q) 0 (import_count pairs q) j (subst P same none) (omega arith) (omega arith)))
          | inr within ↦ f.earlier q j within under
        ];
        first = f.first;
      }

      by : (o : Option BindRefusal) → imports_refusal pairs p ≡ o → option_or o (first_refused pairs order) ≡ Some (reexport_loop fragment symbol place) → (first_refused pairs order ≡ Some (reexport_loop fragment symbol place) → FirstLoop order) → FirstLoop (p ∷ order)
      by None was is deeper = further was (deeper is)
      by (Some x) was is deeper = here (was ∙ is)

  -- and the other way round
  unrefused : (p j : ℕ) → HasTarget pairs p j → import_refusal pairs p j ≡ None
  unrefused p j has = ap result_err has.1

  refused_here : (p : ℕ) (order : List ℕ) (j : ℕ) → j < import_count pairs p → IsLoop p j → ((k : ℕ) → k < j → HasTarget pairs p k) → first_refused pairs (p ∷ order) ≡ Some (reexport_loop fragment symbol place)
  refused_here p order j under is first =
      let e : 0 + j ≡ j = omega arith in
      let at = first_among-at (import_refusal pairs p) 0 (import_count pairs p) j (reexport_loop fragment symbol place) under (λ k low high. unrefused p k (first k (omega arith))) (ap (import_refusal pairs p) e ∙ ap result_err (loops p j is)) in
      ap (λ o. option_or o (first_refused pairs order)) at

  refused_after : (before : List ℕ) (p : ℕ) (later : List ℕ) (j : ℕ) → j < import_count pairs p → IsLoop p j → ((q k : ℕ) → Contains before q → k < import_count pairs q → HasTarget pairs q k) → ((k : ℕ) → k < j → HasTarget pairs p k)
      → first_refused pairs (before ++ p ∷ later) ≡ Some (reexport_loop fragment symbol place)
  refused_after [] p later j under is earlier first = refused_here p later j under is first
  refused_after (q ∷ before) p later j under is earlier first =
      let none : imports_refusal pairs q ≡ None = first_among-none (import_refusal pairs q) 0 (import_count pairs q) (λ k low high. unrefused q k (earlier q k (contains_first q before) (omega arith))) in
      ap (λ o. option_or o (first_refused pairs (before ++ p ∷ later))) none
      ∙ refused_after before p later j under is (λ r k there. earlier r k (contains_later q before r there)) first

  abbrev with_order : List ℕ → List ℕ → Closed
  with_order order init_order = record { pairs = pairs; order = order; init_order = init_order }

  abbrev follows : List ℕ → Result Closed BindRefusal
  follows order = unless (first_refused pairs order) (init_order_of pairs order >>= (λ init_order. Ok (with_order order init_order)))

  closes : IsEndless pairs root fragment symbol place → closed_of pairs root ≡ Err (reexport_loop fragment symbol place)
  unfolding closed_of
  closes e =
      let is : IsLoop e.position e.index = record { name = e.name; import_name = e.import_name; there = e.there; again = e.again } in
      ap (λ r. r >>= follows) e.walked
      ∙ ap (λ o. unless o (init_order_of pairs (e.before ++ e.position ∷ e.later) >>= (λ init_order. Ok (with_order (e.before ++ e.position ∷ e.later) init_order)))) (refused_after e.before e.position e.later e.index e.below is e.earlier e.first)

  endless_of : (order : List ℕ) → order_of pairs root ≡ Ok order → FirstLoop order → IsEndless pairs root fragment symbol place
  endless_of order walked f = record {
    before = f.before;
    position = f.position;
    later = f.later;
    walked = walked ∙ ap Ok f.whole;
    index = f.index;
    below = f.below;
    name = f.is.name;
    import_name = f.is.import_name;
    there = f.is.there;
    again = f.is.again;
    earlier = f.earlier;
    first = f.first;
  }

  -- the order of initialization has other refusals
  ordered : (order : List ℕ) (r : Result (List ℕ) BindRefusal) → Binds pairs root IsOther (all_others pairs root) r → (r >>= (λ init_order. Ok (with_order order init_order))) ≡ Err (reexport_loop fragment symbol place) → ⊥
  ordered order (Ok s) other is = cc
  ordered order (Err e) other is = let same : e ≡ reexport_loop fragment symbol place = cc in subst IsOther same other

  opens : root < length pairs → closed_of pairs root ≡ Err (reexport_loop fragment symbol place) → IsEndless pairs root fragment symbol place
  unfolding closed_of
  opens inside is = by (order_of pairs root) refl (order-binds pairs root IsOther (all_others pairs root) inside) is
    where
      at : (order : List ℕ) → order_of pairs root ≡ Ok order → (o : Option BindRefusal) → first_refused pairs order ≡ o
          → unless o (init_order_of pairs order >>= (λ init_order. Ok (with_order order init_order))) ≡ Err (reexport_loop fragment symbol place) → IsEndless pairs root fragment symbol place
      at order walked None was is = absurd (ordered order (init_order_of pairs order) (ordered-binds pairs root IsOther (all_others pairs root) order) is)
      at order walked (Some x) was is =
          let same : x ≡ reexport_loop fragment symbol place = cc in
          endless_of order walked (first_loop order (was ∙ ap Some same))

      by : (r : Result (List ℕ) BindRefusal) → order_of pairs root ≡ r → Binds pairs root IsOther (all_others pairs root) r → (r >>= follows) ≡ Err (reexport_loop fragment symbol place) → IsEndless pairs root fragment symbol place
      by (Ok order) walked other is = at order walked (first_refused pairs order) refl is
      by (Err e) walked other is = absurd (let same : e ≡ reexport_loop fragment symbol place = cc in subst IsOther same other)

  pub closed-endless : root < length pairs → (closed_of pairs root ≡ Err (reexport_loop fragment symbol place)) ↔ IsEndless pairs root fragment symbol place
  closed-endless inside = (opens inside, closes)
