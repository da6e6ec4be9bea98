-- A fragment that is present is prepared as its container says, with the present addresses, after any list of
-- steps.
use Rattle.std.proofs.Common.{◌≡◌, ℕ, zero, suc, ◌+◌, ◌==◌, ◌<◌, ◌≤◌, length, ◌%◌, ◌^◌, Bool, true, false, List, [], ◌∷◌, ◌++◌, Option, None, Some, Ok, Err, Contains, cond, refl, sym, ap, ap₂, subst, ◌∙◌, inl, inr}
use Rattle.std.specs.Prelude.{Result, option_map}
use Rattle.std.specs.Option.{option_map_or}
use Rattle.std.specs.Result.{result_ok, result_unwrap_or}
use Rattle.std.proofs.lemmas.Bool.Decides.{eqb_tells}
use Rattle.cfm_memory.specs.Extents.{ArePlacedBy, Rule, Stand, place_at}
use Rattle.cfm_memory.specs.Instances.{Layout}
use Rattle.cfm_memory.specs.declared.place.Place.{Place}
use Rattle.cfm_store.specs.Stores.{Pair}
use Rattle.cfm_closure.specs.Faults.{BindRefusal}
use Rattle.cfm_closure.specs.Fragments.{Fragment, container_at, fragment_of, import_count, loader_at}
use Rattle.pef_loader.specs.Loader.{Loaded}
use Rattle.cfm_sections.specs.Images.{extents_of}
use Rattle.cfm_closure.specs.Closures.{closed_of}
use Rattle.cfm_closure.specs.Promises.{LiesInside}
use Rattle.cfm_closure.specs.Targets.{target_of}
use Rattle.cfm_closure.specs.declared.targets.Target.{Target}
use Rattle.cfm_closure.specs.declared.targets.Target.TheVariants.{Absolute, At}
use Rattle.cfm_closure.proofs.Laws.{AreSame, closed-complete, fragment_of-same, target-inside, target-same as order-target-same}
use Rattle.cfm_sections.specs.Prepared.{addresses_at, prepared_at}
use Rattle.cfm_prepare.specs.Addresses.{addresses_from, import_address, section_of, target_address}
use Rattle.cfm_prepare.specs.Lists.{has}
use Rattle.cfm_prepare.specs.Fragments.{Present, extents_in, is_present, places_of, prepared_in}
use Rattle.cfm_prepare.specs.Placing.{Fits}
use Rattle.cfm_prepare.proofs.ListLemmas.{has-at, has-contains}
use Rattle.cfm_prepare.proofs.PlacedLemmas.{placed-fit}
use Rattle.pef_words.proofs.Laws.Tests.{cond-later}
use Rattle.cfm_prepare.specs.Options.{Choices}
use Rattle.cfm_prepare.specs.Contexts.{ContextState, Open, made_state, is_needed, needed_of, opened}
use Rattle.cfm_prepare.specs.Now.{IsPreparedNow}
use Rattle.cfm_prepare.specs.Runs.{AreClosed, Keeps, Runs, Step, Takes, closed, freed, prepared, prepared_given, reserved, stored, taken_out}
use Rattle.cfm_prepare.specs.Steps.{Closes, PreparesBy, PutsBack, TakesOut}
use Rattle.cfm_prepare.proofs.KeepLemmas.{AllBy, IsLaid, IsThere, all-append, all-both, all-index, all-map, all-needed, frees-keeps, kept-close, kept-new, laid-close, laid-free, laid-prepare, laid-reserve, laid-store, places-before, places-needed, reserves-keeps}
use Rattle.cfm_prepare.proofs.RunLemmas.{AllSame, ChangesStore, IsSound, after-close, after-free, after-prepare, after-reserve, after-store, fresh-sound, needed-either, removes, run-sound, stores}

-- two lists of fragments have the places that some connections need
abbrev AgreeOn : List Open → List Present → List Present → Type 0
AgreeOn os all now = (q : ℕ) → is_needed os q ≡ true → places_of now q ≡ places_of all q

-- a target in a fragment that is needed has the same address in both
target-same : (pairs : List Pair) (os : List Open) (all now : List Present) (order : List ℕ) (t : Option Target) → AgreeOn os all now → ((q : ℕ) → has order q ≡ true → is_needed os q ≡ true)
    → LiesInside pairs order t → target_address now t ≡ target_address all t
target-same pairs os all now order None agree needed inside = refl
target-same pairs os all now order (Some (Absolute number)) agree needed inside = refl
target-same pairs os all now order (Some (At q section offset)) agree needed inside =
    ap (λ (ps : List Place). ((place_at ps section).address + offset) % 2 ^ 32) (agree q (needed q (has-at order q inside.member)))

result-same : (pairs : List Pair) (os : List Open) (all now : List Present) (order : List ℕ) (r : Result (Option Target) BindRefusal) → AgreeOn os all now → ((q : ℕ) → has order q ≡ true → is_needed os q ≡ true)
    → ((t : Option Target) → r ≡ Ok t → LiesInside pairs order t) → target_address now (result_unwrap_or r None) ≡ target_address all (result_unwrap_or r None)
result-same pairs os all now order (Ok t) agree needed inside = target-same pairs os all now order t agree needed (inside t refl)
result-same pairs os all now order (Err e) agree needed inside = refl

-- an open connection whose closure has a fragment
record HasOpen (pairs : List Pair) (os : List Open) (p : ℕ) : Type 0 where
  link : Open
  inside : link.root < length pairs
  closes : closed_of pairs link.root ≡ Ok (record link.closed { pairs = pairs })
  has_it : has link.closed.order p ≡ true
  needed : (q : ℕ) → has link.closed.order q ≡ true → is_needed os q ≡ true

needed-first : (b c : Bool) → b ≡ true → cond b true c ≡ true
needed-first true c is = refl
needed-first false c is = absurd (cc)

open-with : (pairs : List Pair) (os : List Open) (p : ℕ) → AreClosed pairs os → is_needed os p ≡ true → HasOpen pairs os p
open-with pairs [] p are is = absurd (cc)
open-with pairs (o ∷ os) p are is = by (has o.closed.order p) refl is (λ left. open-with pairs os p are.1 left)
  where
    by : (b : Bool) → has o.closed.order p ≡ b → cond b true (is_needed os p) ≡ true → (is_needed os p ≡ true → HasOpen pairs os p) → HasOpen pairs (o ∷ os) p
    by true was is later = record { link = o; inside = are.0.inside; closes = are.0.closed; has_it = was; needed = λ q there. needed-first (has o.closed.order q) (is_needed os q) there }
    by false was is later =
        let rest = later is in
        record { link = rest.link; inside = rest.inside; closes = rest.closes; has_it = rest.has_it; needed = λ q there. cond-later (has o.closed.order q) (is_needed os q) (rest.needed q there) }

module _ (pairs : List Pair) (os : List Open) (are : AreClosed pairs os) (all now : List Present) (agree : AgreeOn os all now) where
  import-same : (p j : ℕ) → is_needed os p ≡ true → import_address pairs now p j ≡ import_address pairs all p j
  import-same p j needed =
      let o = open-with pairs os p are needed in
      let order = o.link.closed.order in
      let complete = closed-complete pairs o.link.root (record o.link.closed { pairs = pairs }) o.closes in
      result-same pairs os all now order (target_of pairs p j) agree o.needed (λ t is. target-inside pairs order complete p j t (has-contains order p o.has_it) is)

  imports-same : (p from n : ℕ) → is_needed os p ≡ true → addresses_from pairs now p from n ≡ addresses_from pairs all p from n
  imports-same p from zero needed = refl
  imports-same p from (suc n) needed = ap₂ (λ (a : ℕ) (rest : List ℕ). a ∷ rest) (import-same p from needed) (imports-same p (from + 1) n needed)

  -- so its sections are prepared in the same way
  section-same : (f : Present) (k : ℕ) → is_needed os f.position ≡ true → section_of pairs now f k ≡ section_of pairs all f k
  section-same f k needed =
      ap (λ (is : List ℕ). prepared_in pairs (addresses_at f.places is) f.position k) (imports-same f.position 0 (import_count pairs f.position) needed)

  stand-same : (m after : Layout) (f : Present) → is_needed os f.position ≡ true → Keeps m after f.places → Stand m f.places (section_of pairs all f) → Stand after f.places (section_of pairs now f)
  stand-same m after f needed keeps stand k under = keeps k under ∙ stand k under ∙ ap Some (sym (section-same f k needed))

own-present : (fs : List Present) → AllBy (λ f. is_present fs f.position ≡ true) fs
own-present [] = tt
own-present (f ∷ fs) = (
  first,
  all-map (λ g. is_present fs g.position ≡ true) (λ g. is_present (f ∷ fs) g.position ≡ true) fs (λ g is. cond-later (f.position == g.position) (is_present fs g.position) is) (own-present fs),
)
  where
    first : is_present (f ∷ fs) f.position ≡ true
    first = elim (eqb_tells f.position f.position) [ inl same ↦ rw same.0 refl | inr other ↦ absurd (other.1 refl) ]

own-needed : (pairs : List Pair) (s : ContextState) → IsSound pairs s → AllBy (λ f. is_needed s.connections f.position ≡ true) s.present
own-needed pairs s sound = all-map (λ f. is_present s.present f.position ≡ true) (λ f. is_needed s.connections f.position ≡ true) s.present (λ f is. sym (sound.same f.position) ∙ is) (own-present s.present)

-- the invariant of a state
abbrev StandsNow : List Pair → Layout → List Present → Present → Type 0
StandsNow pairs m all f = Stand m f.places (section_of pairs all f)

record IsNow (pairs : List Pair) (s : ContextState) : Type 0 where
  sound : IsSound pairs s
  laid : IsLaid s
  fits : AllBy (Fits pairs) s.present
  stand : AllBy (StandsNow pairs s.memory s.present) s.present

now-prepare : {rule : Rule} (pairs : List Pair) (s t : ContextState) (name : List ℕ) (number : ℕ) → IsNow pairs s → PreparesBy rule s name number t → IsNow pairs t
now-prepare {rule} pairs s t name number now step =
    let sound = now.sound in
    let all : List Present = s.present ++ step.fresh in
    let agree : AgreeOn s.connections s.present all = λ q needed. places-before s.present step.fresh q (sound.same q ∙ needed) in
    let keep : AllBy (λ f. Keeps s.memory t.memory f.places) s.present =
    all-map (IsThere s.memory) (λ f. Keeps s.memory t.memory f.places) s.present (λ f there. kept-new pairs s t name number step f there) now.laid.there in
    let ready : AllBy (λ f. (is_needed s.connections f.position ≡ true) × Keeps s.memory t.memory f.places) s.present =
    all-both (λ f. is_needed s.connections f.position ≡ true) (λ f. Keeps s.memory t.memory f.places) (λ f. (is_needed s.connections f.position ≡ true) × Keeps s.memory t.memory f.places) s.present (λ f a b. (a, b)) (own-needed pairs s sound) keep in
    let old : AllBy (StandsNow pairs t.memory all) s.present =
    all-both (λ f. (is_needed s.connections f.position ≡ true) × Keeps s.memory t.memory f.places) (StandsNow pairs s.memory s.present) (StandsNow pairs t.memory all) s.present
    (λ f here stand. stand-same pairs s.connections sound.closures s.present all agree s.memory t.memory f here.0 here.1 stand) ready now.stand in
    let P : List Pair → Type 0 = λ ps. AllBy (StandsNow ps t.memory all) step.fresh in
    let new : P pairs = subst P sound.store (all-index (StandsNow s.pairs t.memory all) step.fresh (λ i under. step.prepared.stand i under)) in
    let Q : List Pair → Type 0 = λ ps. AllBy (Fits ps) step.fresh in
    let fit : Q pairs = subst Q sound.store (all-index (Fits s.pairs) step.fresh (placed-fit rule s.pairs s.memory step.fresh step.prepared.are.empty step.prepared.are.placed)) in
    record {
      sound = after-prepare pairs s t name number sound step;
      laid = laid-prepare pairs s t name number now.laid step;
      fits = subst (AllBy (Fits pairs)) (sym step.present) (all-append (Fits pairs) s.present step.fresh now.fits fit);
      stand = subst (λ fs. AllBy (StandsNow pairs t.memory fs) fs) (sym step.present) (all-append (StandsNow pairs t.memory all) s.present step.fresh old new);
    }

now-close : (pairs : List Pair) (s t : ContextState) (number : ℕ) → IsNow pairs s → Closes s number t → IsNow pairs t
now-close pairs s t number now step =
    let after = after-close pairs s t number now.sound step in
    let left : List Present = needed_of t.connections s.present in
    let agree : AgreeOn t.connections s.present left = λ q needed. places-needed t.connections s.present q needed in
    let N : Present → Type 0 = λ f. is_needed t.connections f.position ≡ true in
    let K : Present → Type 0 = λ f. Keeps s.memory t.memory f.places in
    let B : Present → Type 0 = λ f. N f × K f in
    let own : AllBy N left = subst (AllBy N) step.present (own-needed pairs t after) in
    let ready : AllBy B left = all-both N K B left (λ f a b. (a, b)) own (kept-close s t number now.laid step) in
    let stand : AllBy (StandsNow pairs t.memory left) left =
    all-both B (StandsNow pairs s.memory s.present) (StandsNow pairs t.memory left) left
    (λ f here stand. stand-same pairs t.connections after.closures s.present left agree s.memory t.memory f here.0 here.1 stand) ready (all-needed (StandsNow pairs s.memory s.present) t.connections s.present now.stand) in
    record {
      sound = after;
      laid = laid-close s t number now.laid step;
      fits = subst (AllBy (Fits pairs)) (sym step.present) (all-needed (Fits pairs) t.connections s.present now.fits);
      stand = subst (λ fs. AllBy (StandsNow pairs t.memory fs) fs) (sym step.present) stand;
    }

-- the same, where another store has the same in its closure
same-with : (pairs pairs' : List Pair) (os : List Open) (p : ℕ) → AreClosed pairs os → AllSame pairs pairs' os → is_needed os p ≡ true → (o : HasOpen pairs os p) × AreSame pairs pairs' o.link.closed.order
same-with pairs pairs' [] p are same is = absurd (cc)
same-with pairs pairs' (o ∷ os) p are same is = by (has o.closed.order p) refl is (λ left. same-with pairs pairs' os p are.1 same.1 left)
  where
    by : (b : Bool) → has o.closed.order p ≡ b → cond b true (is_needed os p) ≡ true → (is_needed os p ≡ true → (h : HasOpen pairs os p) × AreSame pairs pairs' h.link.closed.order) → (h : HasOpen pairs (o ∷ os) p) × AreSame pairs pairs' h.link.closed.order
    by true was is later = (record { link = o; inside = are.0.inside; closes = are.0.closed; has_it = was; needed = λ q there. needed-first (has o.closed.order q) (is_needed os q) there }, same.0)
    by false was is later =
        let rest = later is in
        (record { link = rest.0.link; inside = rest.0.inside; closes = rest.0.closes; has_it = rest.0.has_it; needed = λ q there. cond-later (has o.closed.order q) (is_needed os q) (rest.0.needed q there) }, rest.1)

-- a fragment that is needed is prepared in the same way in that store
module _ (pairs pairs' : List Pair) (more : length pairs ≤ length pairs') (os : List Open) (are : AreClosed pairs os) (same : AllSame pairs pairs' os) (p : ℕ) (needed : is_needed os p ≡ true) where
  other-fragment : fragment_of pairs' p ≡ fragment_of pairs p
  other-fragment =
      let m = same-with pairs pairs' os p are same needed in
      fragment_of-same pairs pairs' p (m.1 p (has-contains m.0.link.closed.order p m.0.has_it)).pair

  other-target : (j : ℕ) → target_of pairs' p j ≡ target_of pairs p j
  other-target j =
      let m = same-with pairs pairs' os p are same needed in
      order-target-same pairs pairs' m.0.link.root (record m.0.link.closed { pairs = pairs }) m.0.inside more m.0.closes m.1 p j (has-contains m.0.link.closed.order p m.0.has_it)

  other-container : container_at pairs' p ≡ container_at pairs p
  other-container = ap (λ r. option_map (λ (f : Fragment). f.container) (result_ok r)) other-fragment

  other-loader : loader_at pairs' p ≡ loader_at pairs p
  other-loader = ap (λ r. option_map (λ (f : Fragment). f.loader) (result_ok r)) other-fragment

  other-extents : extents_in pairs' p ≡ extents_in pairs p
  other-extents = ap (λ c. option_map_or extents_of c []) other-container

  other-addresses : (all : List Present) (from k : ℕ) → addresses_from pairs' all p from k ≡ addresses_from pairs all p from k
  other-addresses all from zero = refl
  other-addresses all from (suc k) = ap₂ (λ (a : ℕ) (rest : List ℕ). a ∷ rest) (ap (λ r. target_address all (result_unwrap_or r None)) (other-target from)) (other-addresses all (from + 1) k)

  other-section : (all : List Present) (places : List Place) (k : ℕ)
      → section_of pairs' all (record { position = p; places = places }) k ≡ section_of pairs all (record { position = p; places = places }) k
  other-section all places k =
      ap (λ c. option_map_or (λ c. option_map_or (λ l. prepared_at c l (addresses_at places (addresses_from pairs' all p 0 (import_count pairs' p))) k) (loader_at pairs' p) []) c []) other-container
      ∙ ap (λ l. option_map_or (λ c. option_map_or (λ l. prepared_at c l (addresses_at places (addresses_from pairs' all p 0 (import_count pairs' p))) k) l []) (container_at pairs p) []) other-loader
      ∙ ap (λ (is : List ℕ). prepared_in pairs (addresses_at places is) p k)
      (ap (λ l. addresses_from pairs' all p 0 (option_map_or (λ (l : Loaded). l.header.import_count) l 0)) other-loader ∙ other-addresses all 0 (import_count pairs p))

  other-fits : (places : List Place) → Fits pairs (record { position = p; places = places }) → Fits pairs' (record { position = p; places = places })
  other-fits places fits = record {
    rule = fits.rule;
    before = fits.before;
    after = fits.after;
    placed = subst (λ es. ArePlacedBy fits.rule fits.before es places fits.after) (sym other-extents) fits.placed;
  }

now-store : (s t : ContextState) → IsNow s.pairs s → ChangesStore s t → IsNow t.pairs t
now-store s t now change =
    let pairs' = change.pairs in
    let u : ContextState = record s { pairs = pairs' } in
    let N : Present → Type 0 = λ f. is_needed s.connections f.position ≡ true in
    let own : AllBy N s.present = own-needed s.pairs s now.sound in
    let fits : AllBy (Fits pairs') s.present =
    all-both N (Fits s.pairs) (Fits pairs') s.present (λ f needed fits. other-fits s.pairs pairs' change.more s.connections now.sound.closures change.same f.position needed f.places fits) own now.fits in
    let stand : AllBy (StandsNow pairs' s.memory s.present) s.present =
    all-both N (StandsNow s.pairs s.memory s.present) (StandsNow pairs' s.memory s.present) s.present
    (λ f needed stand k under. stand k under ∙ ap Some (sym (other-section s.pairs pairs' change.more s.connections now.sound.closures change.same f.position needed s.present f.places k))) own now.stand in
    subst (λ (t : ContextState). IsNow t.pairs t) (sym change.is) (record {
      sound = after-store s u now.sound (record { pairs = pairs'; more = change.more; same = change.same; is = refl });
      laid = laid-store s u pairs' now.laid refl;
      fits = fits;
      stand = stand;
    })

-- so a fragment that is present needs the same memory after a step
changed-extents : (s t : ContextState) (p : ℕ) → IsSound s.pairs s → ChangesStore s t → is_present s.present p ≡ true → extents_in t.pairs p ≡ extents_in s.pairs p
changed-extents s t p sound change is =
    ap (λ (t : ContextState). extents_in t.pairs p) change.is
    ∙ other-extents s.pairs change.pairs change.more s.connections sound.closures change.same p (sym (sound.same p) ∙ is)

pub step-extents : (pairs : List Pair) (choices : Choices) (steps : List Step) (s t : ContextState) (step : Step) (p : ℕ) → Runs (made_state pairs choices) steps s → Takes s step t → is_present s.present p ≡ true → extents_in t.pairs p ≡ extents_in s.pairs p
step-extents pairs choices steps s t (prepared name number) p run takes is = ap (λ pairs. extents_in pairs p) takes.pairs
step-extents pairs choices steps s t (prepared_given name addresses number) p run takes is = ap (λ pairs. extents_in pairs p) takes.pairs
step-extents pairs choices steps s t (closed number) p run takes is = ap (λ pairs. extents_in pairs p) takes.pairs
step-extents pairs choices steps s t (reserved address size) p run takes is = ap (λ (t : ContextState). extents_in t.pairs p) takes.is
step-extents pairs choices steps s t (freed address size) p run takes is = ap (λ (t : ContextState). extents_in t.pairs p) takes.is
step-extents pairs choices steps s t (stored name bytes) p run takes is = let sound = run-sound pairs choices steps s run in changed-extents s t p sound (stores s t name bytes sound takes) is
step-extents pairs choices steps s t (taken_out name) p run takes is = let sound = run-sound pairs choices steps s run in changed-extents s t p sound (removes s t name sound takes) is

now-reserve : (s t : ContextState) (address size : ℕ) → IsNow s.pairs s → TakesOut s address size t → IsNow t.pairs t
now-reserve s t address size now step =
    let u : ContextState = record s { memory = step.memory } in
    let same : TakesOut s address size u = record { memory = step.memory; reserves = step.reserves; is = refl } in
    subst (λ (t : ContextState). IsNow t.pairs t) (sym step.is) (record {
      sound = after-reserve s u address size now.sound same;
      laid = laid-reserve s u address size now.laid same;
      fits = now.fits;
      stand = all-map (StandsNow s.pairs s.memory s.present) (StandsNow s.pairs step.memory s.present) s.present (λ f stand k under. reserves-keeps s.memory step.memory address size f.places step.reserves k under ∙ stand k under) now.stand;
    })

now-free : (s t : ContextState) (address size : ℕ) → IsNow s.pairs s → PutsBack s address size t → IsNow t.pairs t
now-free s t address size now step =
    let u : ContextState = record s { memory = step.memory } in
    let same : PutsBack s address size u = record { memory = step.memory; frees = step.frees; is = refl } in
    subst (λ (t : ContextState). IsNow t.pairs t) (sym step.is) (record {
      sound = after-free s u address size now.sound same;
      laid = laid-free s u address size now.laid same;
      fits = now.fits;
      stand = all-map (StandsNow s.pairs s.memory s.present) (StandsNow s.pairs step.memory s.present) s.present (λ f stand k under. frees-keeps s.memory step.memory address size f.places step.frees k under ∙ stand k under) now.stand;
    })

now-all : (s t : ContextState) (steps : List Step) → IsNow s.pairs s → Runs s steps t → IsNow t.pairs t
now-all s t [] now run = subst (λ (t : ContextState). IsNow t.pairs t) (sym run) now
now-all s t (prepared name number ∷ steps) now run = now-all run.0 t steps (subst (λ ps. IsNow ps run.0) (sym run.1.pairs) (now-prepare s.pairs s run.0 name number now run.1)) run.2
now-all s t (prepared_given name addresses number ∷ steps) now run = now-all run.0 t steps (subst (λ ps. IsNow ps run.0) (sym run.1.pairs) (now-prepare s.pairs s run.0 name number now run.1)) run.2
now-all s t (closed number ∷ steps) now run = now-all run.0 t steps (subst (λ ps. IsNow ps run.0) (sym run.1.pairs) (now-close s.pairs s run.0 number now run.1)) run.2
now-all s t (reserved address size ∷ steps) now run = now-all run.0 t steps (now-reserve s run.0 address size now run.1) run.2
now-all s t (freed address size ∷ steps) now run = now-all run.0 t steps (now-free s run.0 address size now run.1) run.2
now-all s t (stored name bytes ∷ steps) now run = now-all run.0 t steps (now-store s run.0 now (stores s run.0 name bytes now.sound run.1)) run.2
now-all s t (taken_out name ∷ steps) now run = now-all run.0 t steps (now-store s run.0 now (removes s run.0 name now.sound run.1)) run.2

fresh-now : (pairs : List Pair) (choices : Choices) → IsNow pairs (made_state pairs choices)
fresh-now pairs choices = record { sound = fresh-sound pairs choices; laid = record { there = tt; apart = tt }; fits = tt; stand = tt }

-- a fact of each is one of the fragment with a position
at-position : (P : ℕ → List Place → Type 0) (fs : List Present) (p : ℕ) → AllBy (λ f. P f.position f.places) fs → is_present fs p ≡ true → P p (places_of fs p)
at-position P [] p all is = absurd (cc)
at-position P (f ∷ fs) p all is = elim (eqb_tells f.position p) [
  | inl same ↦ rw same.0 (subst (λ n. P n f.places) same.1 all.0)
  | inr other ↦ (let left : is_present fs p ≡ true = rw other.0 at is in rw other.0 (at-position P fs p all.1 left))
]

now-at : (pairs : List Pair) (s : ContextState) (p : ℕ) → IsNow pairs s → is_present s.present p ≡ true → IsPreparedNow pairs s p
now-at pairs s p now is =
    let fit = at-position (λ q places. Fits pairs (record { position = q; places = places })) s.present p now.fits is in
    record {
      rule = fit.rule;
      before = fit.before;
      empty = fit.after;
      placed = fit.placed;
      stand = at-position (λ q places. StandsNow pairs s.memory s.present (record { position = q; places = places })) s.present p now.stand is;
    }

pub run-now : (pairs : List Pair) (choices : Choices) (steps : List Step) (s : ContextState) (p : ℕ) → Runs (made_state pairs choices) steps s → is_present s.present p ≡ true → IsPreparedNow s.pairs s p
run-now pairs choices steps s p run is = now-at s.pairs s p (now-all (made_state pairs choices) s steps (fresh-now pairs choices) run) is

-- and a step that prepares leaves each fragment of its closure so
pub run-prepares : {rule : Rule} (pairs : List Pair) (choices : Choices) (steps : List Step) (s t : ContextState) (name : List ℕ) (number p : ℕ) → Runs (made_state pairs choices) steps s → (step : PreparesBy rule s name number t) → Contains step.closure.closed.order p
    → (is_present t.present p ≡ true) × IsPreparedNow t.pairs t p
run-prepares pairs choices steps s t name number p run step there =
    let now = subst (λ ps. IsNow ps t) (sym step.pairs) (now-prepare s.pairs s t name number (now-all (made_state pairs choices) s steps (fresh-now pairs choices) run) step) in
    let o : Open = opened s step.closure.has.root step.closure.closed in
    let is : is_present t.present p ≡ true =
    now.sound.same p ∙ ap (λ os. is_needed os p) step.connections ∙ needed-either s.connections o p ∙ cond-later (is_needed s.connections p) (has o.closed.order p) (has-at o.closed.order p there) in (is, now-at t.pairs t p now is)
