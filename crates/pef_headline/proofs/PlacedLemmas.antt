-- In which memory a fragment was placed: by a preparation, and by the last one of a run before which it wasn't present.
use Rattle.std.proofs.Common.{◌≡◌, ◌⊎◌, ℕ, length, Bool, true, false, List, [], ◌∷◌, ◌++◌, cond, inl, inr, refl, sym, ap, subst, ◌∙◌}
use Rattle.std.proofs.lemmas.Bool.Decides.{eqb_tells}
use Rattle.cfm_store.specs.Stores.{Pair}
use Rattle.cfm_memory.specs.Extents.{ArePlacedBy, Extent, Rule, at_given, at_lowest, rule_after}
use Rattle.cfm_memory.proofs.Laws.{after-both, after-none}
use Rattle.cfm_memory.specs.Instances.{Layout}
use Rattle.cfm_memory.specs.Placement.{with_new}
use Rattle.cfm_memory.specs.declared.place.Place.{Place}
use Rattle.cfm_prepare.specs.Options.{Choices}
use Rattle.cfm_prepare.specs.Contexts.{ContextState, made_state, is_needed}
use Rattle.cfm_prepare.specs.Fragments.{Present, extents_in, is_present, places_of}
use Rattle.cfm_prepare.specs.Placing.{AllPlacedBy}
use Rattle.cfm_prepare.specs.Runs.{Runs, Step, Takes, closed, freed, prepared, prepared_given, reserved, stored, taken_out}
use Rattle.cfm_prepare.specs.Steps.{PreparesBy}
use Rattle.cfm_prepare.proofs.Laws.{places-append, present-append, present-needed, run-keeps, step-extents}
use Rattle.pef_headline.specs.Placed.{IsPlacedAnew, IsPresentAt, StaysAt, WasPlaced, memory_for, rule_of_step, sections_before, with_places}

-- extents that were placed leave a memory with instances at their places
placed-after : (rule : Rule) (m : Layout) (es : List Extent) (places : List Place) (after : Layout) → ArePlacedBy rule m es places after → after ≡ with_places m places
placed-after rule m [] [] after placed = placed
placed-after rule m [] (place ∷ places) after placed = absurd placed
placed-after rule m (e ∷ es) [] after placed = absurd placed
placed-after rule m (e ∷ es) (place ∷ places) after placed = placed-after (rule_after rule 1) (with_new m place) es places after placed.1

-- the sections of a fragment were placed in a memory by a rule
abbrev pub FoundPlaces : Rule → List Pair → Layout → ℕ → List Place → Type 0
FoundPlaces rule pairs before p places = (after : Layout) × ArePlacedBy rule before (extents_in pairs p) places after

-- one of new fragments was placed in its memory, by what is left of the rule
found-places : (rule : Rule) (pairs : List Pair) (m : Layout) (fs : List Present) (after : Layout) (p : ℕ) → AllPlacedBy rule pairs m fs after → is_present fs p ≡ true → FoundPlaces (rule_after rule (sections_before fs p)) pairs (memory_for m fs p) p (places_of fs p)
found-places rule pairs m [] after p placed is = absurd (cc)
found-places rule pairs m (f ∷ fs) after p placed is = elim (eqb_tells f.position p) [
  | inl same ↦ rw same.0 (subst (λ r. FoundPlaces r pairs m p f.places) (sym (after-none rule)) (subst (λ (n : ℕ). FoundPlaces rule pairs m n f.places) same.1 (placed.0, placed.1)))
  | inr other ↦ (let left : is_present fs p ≡ true = rw other.0 at is in
      let mid : placed.0 ≡ with_places m f.places = placed-after rule m (extents_in pairs f.position) f.places placed.0 placed.1 in
      let rest = found-places (rule_after rule (length f.places)) pairs placed.0 fs after p placed.2 left in
      rw other.0 (subst (λ r. FoundPlaces r pairs (memory_for (with_places m f.places) fs p) p (places_of fs p)) (after-both rule (length f.places) (sections_before fs p))
      (subst (λ (k : Layout). FoundPlaces (rule_after (rule_after rule (length f.places)) (sections_before fs p)) pairs (memory_for k fs p) p (places_of fs p)) mid rest)))
]

-- a fragment that a step placed
pub record HasBegun (rule : Rule) (s t : ContextState) (p : ℕ) : Type 0 where
  pub own : Rule
  pub before : Layout
  pub anew : IsPlacedAnew rule s t p before own
  pub found : FoundPlaces own t.pairs before p (places_of t.present p)

-- a preparation placed each fragment that wasn't present before, and is now
pub begun : (rule : Rule) (s t : ContextState) (name : List ℕ) (number p : ℕ) → PreparesBy rule s name number t → is_present s.present p ≡ false → is_present t.present p ≡ true → HasBegun rule s t p
begun rule s t name number p step absent is =
    let split : is_present t.present p ≡ cond (is_present s.present p) true (is_present step.fresh p) = ap (λ fs. is_present fs p) step.present ∙ present-append s.present step.fresh p in
    let mine : is_present step.fresh p ≡ true = sym (split ∙ ap (λ (b : Bool). cond b true (is_present step.fresh p)) absent) ∙ is in
    let places : places_of t.present p ≡ places_of step.fresh p =
    ap (λ fs. places_of fs p) step.present ∙ places-append s.present step.fresh p ∙ ap (λ (b : Bool). cond b (places_of s.present p) (places_of step.fresh p)) absent in
    let are = step.prepared.are in
    let left = rule_after rule (sections_before step.fresh p) in
    record {
      own = left;
      before = memory_for s.memory step.fresh p;
      anew = record { absent = absent; fresh = step.fresh; present = step.present; is = refl; by = refl };
      found = subst (λ (pairs : List Pair). FoundPlaces left pairs (memory_for s.memory step.fresh p) p (places_of t.present p)) (sym step.pairs)
          (subst (FoundPlaces left s.pairs (memory_for s.memory step.fresh p) p) (sym places) (found-places rule s.pairs s.memory step.fresh are.empty p are.placed mine));
    }

never : (b : Bool) → cond b false false ≡ false
never true = refl
never false = refl

-- and no other step does
step-begun : (step : Step) (s t : ContextState) (p : ℕ) → Takes s step t → is_present s.present p ≡ false → is_present t.present p ≡ true → HasBegun (rule_of_step step) s t p
step-begun (prepared name number) s t p takes absent is = begun at_lowest s t name number p takes absent is
step-begun (prepared_given name addresses number) s t p takes absent is = begun (at_given addresses) s t name number p takes absent is
step-begun (closed number) s t p takes absent is =
    let gone : is_present t.present p ≡ false =
    ap (λ fs. is_present fs p) takes.present ∙ present-needed t.connections s.present p ∙ ap (λ (b : Bool). cond (is_needed t.connections p) b false) absent ∙ never (is_needed t.connections p) in
    absurd (cc)
step-begun (reserved address size) s t p takes absent is =
    let same : is_present t.present p ≡ is_present s.present p = ap (λ (u : ContextState). is_present u.present p) takes.is in
    absurd (cc)
step-begun (freed address size) s t p takes absent is =
    let same : is_present t.present p ≡ is_present s.present p = ap (λ (u : ContextState). is_present u.present p) takes.is in
    absurd (cc)
step-begun (stored name bytes) s t p takes absent is =
    let same : is_present t.present p ≡ is_present s.present p = ap (λ (u : ContextState). is_present u.present p) takes.is in
    absurd (cc)
step-begun (taken_out name) s t p takes absent is =
    let same : is_present t.present p ≡ is_present s.present p = ap (λ (u : ContextState). is_present u.present p) takes.is in
    absurd (cc)

-- a preparation keeps the places of the others
pub still : (rule : Rule) (s t : ContextState) (name : List ℕ) (number p : ℕ) → PreparesBy rule s name number t → is_present s.present p ≡ true → IsPresentAt s p (places_of t.present p)
still rule s t name number p step is = record {
  present = is;
  are = sym (ap (λ fs. places_of fs p) step.present ∙ places-append s.present step.fresh p ∙ ap (λ (b : Bool). cond b (places_of s.present p) (places_of step.fresh p)) is);
}

-- one step more
pub run-push : (done : List Step) (s a b : ContextState) (step : Step) → Runs s done a → Takes a step b → Runs s (done ++ step ∷ []) b
run-push [] s a b step run takes = (b, subst (λ (u : ContextState). Takes u step b) run takes, refl)
run-push (first ∷ done) s a b step run takes = (run.0, run.1, run-push done run.0 a b step run.2 takes)

-- a fragment that a run placed
pub record WasFound (steps : List Step) (s t : ContextState) (run : Runs s steps t) (p : ℕ) : Type 0 where
  pub rule : Rule
  pub before : Layout
  pub was : WasPlaced steps s t run p before rule
  pub found : FoundPlaces rule t.pairs before p (places_of t.present p)

module _ (pairs : List Pair) (choices : Choices) (p : ℕ) where
  stays-first : (steps : List Step) (s t : ContextState) (run : Runs s steps t) (places : List Place) → StaysAt steps s t run p places → IsPresentAt s p places
  stays-first [] s t run places stays = stays
  stays-first (step ∷ steps) s t run places stays = stays.0

  -- as long as it is present, it needs the same memory
  run-extents : (steps done : List Step) (s t : ContextState) (places : List Place) → Runs (made_state pairs choices) done s → (run : Runs s steps t) → StaysAt steps s t run p places → extents_in t.pairs p ≡ extents_in s.pairs p
  run-extents [] done s t places earlier run stays = ap (λ (u : ContextState). extents_in u.pairs p) run
  run-extents (step ∷ steps) done s t places earlier run stays =
      run-extents steps (done ++ step ∷ []) run.0 t places (run-push done (made_state pairs choices) s run.0 step earlier run.1) run.2 stays.1
      ∙ step-extents pairs choices done s run.0 step p earlier run.1 stays.0.present

  -- the rest of a run placed it, or it is present all along
  rest-placed : (steps done : List Step) (s t : ContextState) → Runs (made_state pairs choices) done s → (run : Runs s steps t) → is_present t.present p ≡ true → WasFound steps s t run p ⊎ StaysAt steps s t run p (places_of t.present p)
  rest-placed [] done s t earlier run is = inr (record { present = subst (λ (u : ContextState). is_present u.present p ≡ true) run is; are = ap (λ (u : ContextState). places_of u.present p) (sym run) })
  rest-placed (step ∷ steps) done s t earlier run is = by (rest-placed steps (done ++ step ∷ []) run.0 t (run-push done (made_state pairs choices) s run.0 step earlier run.1) run.2 is)
    where
      onward : (b : Bool) → is_present s.present p ≡ b → StaysAt steps run.0 t run.2 p (places_of t.present p) → WasFound (step ∷ steps) s t run p ⊎ StaysAt (step ∷ steps) s t run p (places_of t.present p)
      onward true was stays =
          let next = stays-first steps run.0 t run.2 (places_of t.present p) stays in
          let kept = run-keeps pairs choices done s run.0 step p earlier run.1 was next.present in
          inr (record { present = was; are = sym kept.0 ∙ next.are }, stays)
      onward false absent stays =
          let next = stays-first steps run.0 t run.2 (places_of t.present p) stays in
          let new = step-begun step s run.0 p run.1 absent next.present in
          let found : FoundPlaces new.own t.pairs new.before p (places_of run.0.present p) =
          subst (λ es. (after : Layout) × ArePlacedBy new.own new.before es (places_of run.0.present p) after) (sym (run-extents steps (done ++ step ∷ []) run.0 t (places_of t.present p) (run-push done (made_state pairs choices) s run.0 step earlier run.1) run.2 stays)) new.found in
          inl (record { rule = new.own; before = new.before; was = inl (new.anew, stays); found = subst (FoundPlaces new.own t.pairs new.before p) next.are found })

      by : WasFound steps run.0 t run.2 p ⊎ StaysAt steps run.0 t run.2 p (places_of t.present p) → WasFound (step ∷ steps) s t run p ⊎ StaysAt (step ∷ steps) s t run p (places_of t.present p)
      by (inl was) = inl (record { rule = was.rule; before = was.before; was = inr was.was; found = was.found })
      by (inr stays) = onward (is_present s.present p) refl stays

  -- a run from a new context placed each fragment that is present after it
  pub was-found : (steps : List Step) (t : ContextState) (run : Runs (made_state pairs choices) steps t) → is_present t.present p ≡ true → WasFound steps (made_state pairs choices) t run p
  was-found steps t run is = by (rest-placed steps [] (made_state pairs choices) t refl run is)
    where
      by : WasFound steps (made_state pairs choices) t run p ⊎ StaysAt steps (made_state pairs choices) t run p (places_of t.present p) → WasFound steps (made_state pairs choices) t run p
      by (inl was) = was
      by (inr stays) = let first = (stays-first steps (made_state pairs choices) t run (places_of t.present p) stays).present in absurd (cc)
