-- Two stores that have the same fragments and bindings at the places of an order give its imports the same targets.
use Rattle.std.proofs.Common.{◌≡◌, ℕ, zero, suc, List, [], ◌∷◌, Option, None, Some, Ok, Err, refl, sym, ap, ap₂, ◌∙◌, arith, Contains}
use Rattle.std.specs.Prelude.{Result, option_map}
use Rattle.std.specs.Option.{option_and_then, option_map_or, option_or}
use Rattle.std.specs.Result.{result_err, result_ok, result_unwrap_or}
use Rattle.pef_format.specs.Places.{placed_from}
use Rattle.pef_format.specs.Symbols.{Import}
use Rattle.pef_format.specs.declared.place.Part.TheVariants as part
use Rattle.pef_loader.specs.Loader.{Loaded, import_of}
use Rattle.pef_words.specs.Refusals.{first_among}
use Rattle.cfm_store.specs.Stores.{Pair, pair_of}
use Rattle.cfm_closure.specs.Faults.{BindRefusal, reexport_loop}
use Rattle.cfm_closure.specs.Fragments.{Fragment, export_count, import_at, import_count, import_place, loader_at, part_place, place_at}
use Rattle.cfm_closure.specs.Libraries.{library_at}
use Rattle.cfm_closure.specs.Orders.{IsComplete}
use Rattle.cfm_closure.specs.declared.targets.Target.{Target}
use Rattle.cfm_closure.specs.Targets.{Hop, ends, exported, exports_among, exports_in, follow, followed, hop, hop_from, hop_of, hop_to, symbol_of, target_of, through}
use Rattle.cfm_closure.specs.Closures.{first_refused, import_refusal, imports_refusal}
use Rattle.cfm_closure.proofs.BoundLemmas.{library_at-is}
use Rattle.cfm_closure.proofs.HopLemmas.{goes_on}
use Rattle.cfm_closure.proofs.LoopLemmas.{follow-order}
use Rattle.cfm_closure.proofs.OrderFacts.{bound-inside}
use Rattle.cfm_closure.proofs.Ranks.{exports-cons}
use Rattle.cfm_closure.proofs.SameLemmas.{AreSame, SameAt, fragment_of-same}

module _ (pairs pairs' : List Pair) (p : ℕ) (same : SameAt pairs pairs' p) where
  pub loader_at-same : loader_at pairs' p ≡ loader_at pairs p
  loader_at-same = ap (λ r. option_map (λ (f : Fragment). f.loader) (result_ok r)) (fragment_of-same pairs pairs' p same.pair)

  pub library_at-same : (l : ℕ) → library_at pairs' p l ≡ library_at pairs p l
  library_at-same l = ap (λ r. result_unwrap_or r None) (same.bound l)

  import_at-same : (j : ℕ) → import_at pairs' p j ≡ import_at pairs p j
  import_at-same j = ap (option_and_then (λ l. import_of l j)) loader_at-same

  import_count-same : import_count pairs' p ≡ import_count pairs p
  import_count-same = ap (λ o. option_map_or (λ (l : Loaded). l.header.import_count) o 0) loader_at-same

  export_count-same : export_count pairs' p ≡ export_count pairs p
  export_count-same = ap (λ o. option_map_or (λ (l : Loaded). l.header.export_count) o 0) loader_at-same

-- the place of an import in its fragment's container
import_place-same : (pairs pairs' : List Pair) (p j : ℕ) → SameAt pairs pairs' p → import_place pairs' p j ≡ import_place pairs p j
unfolding place_at
import_place-same pairs pairs' p j same = ap (λ r. option_map_or (λ (f : Fragment). part_place f part.Import j 0) (result_ok r) (placed_from None part.Import j 0)) (fragment_of-same pairs pairs' p same.pair)

pub contains_first : (q : ℕ) (ps : List ℕ) → Contains (q ∷ ps) q
contains_first q ps = (0, omega arith, refl)

pub contains_later : (q : ℕ) (ps : List ℕ) (r : ℕ) → Contains ps r → Contains (q ∷ ps) r
contains_later q ps r (k, under, is) = (suc k, omega arith, is)

-- as many exports
exports-same : (pairs pairs' : List Pair) (ps : List ℕ) → AreSame pairs pairs' ps → exports_among pairs' ps ≡ exports_among pairs ps
exports-same pairs pairs' [] same = refl
exports-same pairs pairs' (p ∷ ps) same =
    let a = exports-cons pairs p ps in
    let b = exports-cons pairs' p ps in
    let here = export_count-same pairs pairs' p (same p (contains_first p ps)) in
    let rest = exports-same pairs pairs' ps (λ q there. same q (contains_later p ps q there)) in
    omega arith

module _ (pairs pairs' : List Pair) (order : List ℕ) (complete : IsComplete pairs order) (same : AreSame pairs pairs' order) where
  hop-same : (p j : ℕ) → Contains order p → hop pairs' p j ≡ hop pairs p j
  unfolding hop
  hop-same p j there = ap (hop_of pairs' p j) (import_at-same pairs pairs' p (same p there) j) ∙ of (import_at pairs p j)
    where
      from : (i : Import) (o : Option ℕ) → library_at pairs p i.library ≡ o → hop_from pairs' p j i o ≡ hop_from pairs p j i o
      from i None is = refl
      from i (Some q) is =
          let at = same q (bound-inside pairs order p i.library (Some q) complete there (library_at-is pairs p i.library q is)) in
          ap (λ (x : Pair). hop_to x.name (pair_of pairs' q).name (import_place pairs' p j) i q (option_and_then (exported i.name) (loader_at pairs' q))) (same p there).pair
          ∙ ap (λ (x : Pair). hop_to (pair_of pairs p).name x.name (import_place pairs' p j) i q (option_and_then (exported i.name) (loader_at pairs' q))) at.pair
          ∙ ap (λ place. hop_to (pair_of pairs p).name (pair_of pairs q).name place i q (option_and_then (exported i.name) (loader_at pairs' q))) (import_place-same pairs pairs' p j (same p there))
          ∙ ap (λ o. hop_to (pair_of pairs p).name (pair_of pairs q).name (import_place pairs p j) i q (option_and_then (exported i.name) o)) (loader_at-same pairs pairs' q at)

      of : (o : Option Import) → hop_of pairs' p j o ≡ hop_of pairs p j o
      of None = refl
      of (Some i) = ap (hop_from pairs' p j i) (library_at-same pairs pairs' p (same p there) i.library) ∙ from i (library_at pairs p i.library) refl

  follow-same : (n p j : ℕ) → Contains order p → follow n pairs' p j ≡ follow n pairs p j
  unfolding follow
  follow-same zero p j there = ap (followed (λ q k. None)) (hop-same p j there)
  follow-same (suc n) p j there = ap (followed (follow n pairs')) (hop-same p j there) ∙ by (hop pairs p j) refl (λ q k. follow-same n q k)
    where
      by : (r : Result Hop BindRefusal) → hop pairs p j ≡ r → ((q k : ℕ) → Contains order q → follow n pairs' q k ≡ follow n pairs q k) → followed (follow n pairs') r ≡ followed (follow n pairs) r
      by (Ok (ends target)) is deeper = refl
      by (Ok (through q e k)) is deeper =
          let g = goes_on pairs p j q e k is in
          deeper q k (bound-inside pairs order p g.symbol.library (Some q) complete there (library_at-is pairs p g.symbol.library q g.library))
      by (Err r) is deeper = refl

  module _ (complete' : IsComplete pairs' order) where
    pub target_of-same : (p j : ℕ) → Contains order p → target_of pairs' p j ≡ target_of pairs p j
    unfolding target_of
    target_of-same p j there =
        ap (λ o. option_map_or (λ (answer : Result (Option Target) BindRefusal). answer) o (Err (reexport_loop (pair_of pairs' p).name (symbol_of pairs' p j) (import_place pairs' p j)))) led
        ∙ ap (λ e. option_map_or (λ (answer : Result (Option Target) BindRefusal). answer) (follow (exports_in pairs) pairs p j) (Err e)) refusal
      where
        led : follow (exports_in pairs') pairs' p j ≡ follow (exports_in pairs) pairs p j
        led = sym (follow-order pairs' order complete' p j there)
            ∙ ap (λ n. follow n pairs' p j) (exports-same pairs pairs' order same)
            ∙ follow-same (exports_among pairs order) p j there
            ∙ follow-order pairs order complete p j there

        refusal : reexport_loop (pair_of pairs' p).name (symbol_of pairs' p j) (import_place pairs' p j) ≡ reexport_loop (pair_of pairs p).name (symbol_of pairs p j) (import_place pairs p j)
        refusal = ap (λ (x : Pair). reexport_loop x.name (symbol_of pairs' p j) (import_place pairs' p j)) (same p there).pair
            ∙ ap (λ o. reexport_loop (pair_of pairs p).name (option_map_or (λ (i : Import). i.name) o []) (import_place pairs' p j)) (import_at-same pairs pairs' p (same p there) j)
            ∙ ap (reexport_loop (pair_of pairs p).name (symbol_of pairs p j)) (import_place-same pairs pairs' p j (same p there))

    imports-same : (p : ℕ) → Contains order p → imports_refusal pairs' p ≡ imports_refusal pairs p
    imports-same p there =
        ap (λ n. first_among (import_refusal pairs' p) 0 n) (import_count-same pairs pairs' p (same p there))
        ∙ ap (λ answer. first_among answer 0 (import_count pairs p)) (λ i j. result_err (target_of-same p j there i))

    pub first_refused-same : (ps : List ℕ) → ((q : ℕ) → Contains ps q → Contains order q) → first_refused pairs' ps ≡ first_refused pairs ps
    first_refused-same [] within = refl
    first_refused-same (p ∷ ps) within = ap₂ option_or (imports-same p (within p (contains_first p ps))) (first_refused-same ps (λ q there. within q (contains_later p ps q there)))
