-- The loader sections and the names are those of the store.
use Rattle.std.proofs.Common.{◌≡◌, ◌∙◌, Bool, List, None, map, ap, subst, sym, ℕ}
use Rattle.std.specs.Prelude.{MatchResult}
use Rattle.cfm_store.specs.Stores.{Pair}
use Rattle.pef_loader.specs.Loader.{Loaded}
use Rattle.pef_loader.specs.Views.{loaded}
use Rattle.cfm_stubs.specs.Lacking.{LackingLibrary, lacking_in, lacking_of, loaders_in, wanted}
use Rattle.cfm_stubs.specs.Stubs.{FailsAs}
use Rattle.cfm_stubs.specs.Values.{AreStubs, refusals}
use Rattle.cfm_stubs.specs.Views.{lacking_seen}
use Rattle.cfm_stubs.specs.declared.values.StubValues.{StubValues}
use Rattle.cfm_stubs.specs.declared.values.StubValues.TheVariants.{Memory, Numbers}
use Rattle.cfm_stubs.proofs.SeveralLemmas.{names_now}
use Rattle.cfm_stubs.proofs.several.stubs.Goals as goal

names-are : (store : List Pair) (weak : Bool) (loaders : List Loaded) (found : List LackingLibrary) (names : List (List ℕ)) → loaders ≡ loaders_in store → found ≡ lacking_of store loaders → names ≡ wanted weak found → names ≡ wanted weak (lacking_in store)
unfolding lacking_in
names-are store weak loaders found names own lacking all = all ∙ ap (wanted weak) (lacking ∙ ap (lacking_of store) own)

carried : (P : StubValues → List Loaded → List (List ℕ) → Type 0) (v w : StubValues) (l m : List Loaded) (xs ys : List (List ℕ)) → w ≡ v → l ≡ m → xs ≡ ys → P v l xs → P w m ys
carried P v w l m xs ys values loaders names holds = subst (λ v. P v m ys) (sym values) (subst (λ l. P v l ys) loaders (subst (P v l) names holds))

pub returns-in-Numbers : goal.returns-in-Numbers
returns-in-Numbers c =
    let store = c.args.store.now in
    let own : map loaded c.deref.result.now ≡ loaders_in store = ap (map loaded) c.deref.ensures.value ∙ c.in_ok-loaders.ensures in
    let loaders : map loaded c.deref-in-Numbers.result.now ≡ loaders_in store = ap (map loaded) c.deref-in-Numbers.ensures.value ∙ c.in_ok-loaders.ensures in
    let lacking = ap (map lacking_seen) c.deref-2.ensures.value ∙ c.in_ok-lacking.ensures in
    let names = names-are store c.args.weak (map loaded c.deref.result.now) (map lacking_seen c.deref-2.result.now) (names_now c.deref-in-Numbers-2.result.now) own lacking (ap names_now c.deref-in-Numbers-2.ensures.value ∙ c.in_ok-names.ensures) in
    carried (λ v l ns. MatchResult c.number_stubs.result (λ made. AreStubs v l ns made.items × (refusals v l ns ≡ None)) (λ fault. FailsAs fault (refusals v l ns)))
    (Numbers c.in-Numbers.first c.in-Numbers.step) c.args.values _ _ _ _ c.in-Numbers.is loaders names c.number_stubs.ensures

pub returns : goal.returns
returns c =
    let store = c.args.store.now in
    let own : map loaded c.deref.result.now ≡ loaders_in store = ap (map loaded) c.deref.ensures.value ∙ c.in_ok-loaders.ensures in
    let loaders : map loaded c.deref-in-Memory.result.now ≡ loaders_in store = ap (map loaded) c.deref-in-Memory.ensures.value ∙ c.in_ok-loaders.ensures in
    let lacking = ap (map lacking_seen) c.deref-2.ensures.value ∙ c.in_ok-lacking.ensures in
    let names = names-are store c.args.weak (map loaded c.deref.result.now) (map lacking_seen c.deref-2.result.now) (names_now c.deref-in-Memory-2.result.now) own lacking (ap names_now c.deref-in-Memory-2.ensures.value ∙ c.in_ok-names.ensures) in
    carried (λ v l ns. MatchResult c.memory_stubs.result (λ made. AreStubs v l ns made.items × (refusals v l ns ≡ None)) (λ fault. FailsAs fault (refusals v l ns)))
    (Memory c.in-Memory.word c.in-Memory.size) c.args.values _ _ _ _ c.in-Memory.is loaders names c.memory_stubs.ensures
