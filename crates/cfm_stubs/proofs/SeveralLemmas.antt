-- The stubs of several libraries, one by one.
use Rattle.std.proofs.Common.{◌≡◌, ◌∙◌, Option, ℕ, ◌+◌, ◌*◌, ◌^◌, ◌<◌, ◌≤◌, List, [], ◌∷◌, ◌++◌, None, drop, get_or, length, map, inl, inr, append_assoc, sym, ap, ap₂, subst, arith}
use Rattle.std.specs.Borrow.{Bor}
use Rattle.std.specs.Option.{option_or}
use Rattle.std.proofs.lemmas.List.{drop_all, drop_more}
use Rattle.std.proofs.lemmas.Nat.{mul-le}
use Rattle.pef_loader.specs.Loader.{Loaded}
use Rattle.cfm_stubs.specs.declared.fault.StubFault.{StubFault}
use Rattle.cfm_stubs.specs.NumberStubs.{MadeStub, number_after, number_refusal, number_refusals, number_stub, number_stubs}
use Rattle.cfm_stubs.specs.Stubs.{FailsAs}
use Rattle.cfm_stubs.specs.Symbols.{library_symbols}
use Rattle.cfm_stubs.proofs.FittingLemmas.{length-exports, number-small, numbers-fit}
use Rattle.cfm_stubs.proofs.NumberLemmas.{fails_or}

-- the names of borrowed slices
abbrev pub names_now : List (Bor (List ℕ)) → List (List ℕ)
names_now names = map (λ (name : Bor (List ℕ)). name.now) names

module _ (loaders : List Loaded) (step : ℕ) where
  pub stubs-here : (next : ℕ) (ns : List (Bor (List ℕ))) (i : ℕ) (d : Bor (List ℕ)) → i < length ns
      → number_stubs loaders next step (names_now (drop i ns)) ≡ number_stub loaders next step (get_or ns i d).now ∷ number_stubs loaders (number_after loaders next step (get_or ns i d).now) step (names_now (drop (i + 1) ns))
  unfolding number_stubs
  stubs-here next ns i d under = ap (λ rest. number_stubs loaders next step (names_now rest)) (drop_more ns i d under)

  pub refusals-here : (next : ℕ) (ns : List (Bor (List ℕ))) (i : ℕ) (d : Bor (List ℕ)) → i < length ns
      → number_refusals loaders next step (names_now (drop i ns)) ≡ option_or (number_refusal loaders next step (get_or ns i d).now) (number_refusals loaders (number_after loaders next step (get_or ns i d).now) step (names_now (drop (i + 1) ns)))
  unfolding number_refusals
  refusals-here next ns i d under = ap (λ rest. number_refusals loaders next step (names_now rest)) (drop_more ns i d under)

  pub stubs-end : (next : ℕ) (ns : List (Bor (List ℕ))) (i : ℕ) → length ns ≤ i → number_stubs loaders next step (names_now (drop i ns)) ≡ []
  unfolding number_stubs
  stubs-end next ns i past = ap (λ rest. number_stubs loaders next step (names_now rest)) (drop_all i ns past)

  pub refusals-end : (next : ℕ) (ns : List (Bor (List ℕ))) (i : ℕ) → length ns ≤ i → number_refusals loaders next step (names_now (drop i ns)) ≡ None
  unfolding number_refusals
  refusals-end next ns i past = ap (λ rest. number_refusals loaders next step (names_now rest)) (drop_all i ns past)

  -- the number after a stub
  pub after-is : (next : ℕ) (name : List ℕ) (s : MadeStub) → s ≡ number_stub loaders next step name → next + step * length s.exports ≡ number_after loaders next step name
  unfolding number_stub
  after-is next name s is = ap (λ (s : MadeStub). next + step * length s.exports) is ∙ ap (λ n. next + step * n) (length-exports next step (library_symbols loaders name))

  -- .. is small, since the first one has 32 bits if there are symbols
  pub after-small : (next : ℕ) (name : List ℕ) → step < 2 ^ 32 → next ≤ 2 ^ 47 → number_refusal loaders next step name ≡ None → number_after loaders next step name ≤ 2 ^ 47
  after-small next name narrow small none =
      let count = (numbers-fit next step loaders name none).count in
      let few : length (library_symbols loaders name) ≤ 2 ^ 14 = omega (arith, count, length-exports next step (library_symbols loaders name)) in
      elim (number-small next step loaders name none) [
        | inl zero ↦ (
            let nothing : step * length (library_symbols loaders name) ≡ step * 0 = ap (λ n. step * n) zero in
            omega (arith, small, nothing))
        | inr low ↦ (
            let product = mul-le step (length (library_symbols loaders name)) (2 ^ 32) (2 ^ 14) (omega (arith, narrow)) few in
            omega (arith, low, product))
      ]

  -- one more stub
  pub more-stubs : (next after : ℕ) (ns : List (Bor (List ℕ))) (i : ℕ) (d : Bor (List ℕ)) (s : MadeStub) (old new all : List MadeStub) → i < length ns → s ≡ number_stub loaders next step (get_or ns i d).now → new ≡ old ++ s ∷ [] → after ≡ next + step * length s.exports
      → old ++ number_stubs loaders next step (names_now (drop i ns)) ≡ all → new ++ number_stubs loaders after step (names_now (drop (i + 1) ns)) ≡ all
  more-stubs next after ns i d s old new all under is added is_after before =
      let name = (get_or ns i d).now in
      let rest = names_now (drop (i + 1) ns) in
      let last = number_after loaders next step name in
      ap₂ (λ m n. m ++ number_stubs loaders n step rest) added (is_after ∙ after-is next name s is)
      ∙ append_assoc old (s ∷ []) (number_stubs loaders last step rest)
      ∙ ap (λ x. old ++ (x ∷ number_stubs loaders last step rest)) is
      ∙ ap (λ z. old ++ z) (sym (stubs-here next ns i d under))
      ∙ before

  -- .. against which there is no reason
  pub more-refusals : (next after : ℕ) (ns : List (Bor (List ℕ))) (i : ℕ) (d : Bor (List ℕ)) (s : MadeStub) (all : Option StubFault) → i < length ns → s ≡ number_stub loaders next step (get_or ns i d).now → after ≡ next + step * length s.exports → number_refusal loaders next step (get_or ns i d).now ≡ None
      → number_refusals loaders next step (names_now (drop i ns)) ≡ all → number_refusals loaders after step (names_now (drop (i + 1) ns)) ≡ all
  more-refusals next after ns i d s all under is is_after none before =
      let name = (get_or ns i d).now in
      let rest = names_now (drop (i + 1) ns) in
      let last = number_after loaders next step name in
      ap (λ n. number_refusals loaders n step rest) (is_after ∙ after-is next name s is)
      ∙ sym (ap (λ o. option_or o (number_refusals loaders last step rest)) none)
      ∙ sym (refusals-here next ns i d under)
      ∙ before

  -- .. or there is one
  pub fails-here : (next : ℕ) (ns : List (Bor (List ℕ))) (i : ℕ) (d : Bor (List ℕ)) (f : StubFault) (all : Option StubFault) → i < length ns → FailsAs f (number_refusal loaders next step (get_or ns i d).now) → number_refusals loaders next step (names_now (drop i ns)) ≡ all → FailsAs f all
  fails-here next ns i d f all under fails before =
      let name = (get_or ns i d).now in
      let rest = names_now (drop (i + 1) ns) in
      subst (FailsAs f) (sym (refusals-here next ns i d under) ∙ before) (fails_or f (number_refusal loaders next step name) (number_refusals loaders (number_after loaders next step name) step rest) fails)
