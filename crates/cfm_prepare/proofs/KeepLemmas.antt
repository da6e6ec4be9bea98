-- A fragment that is present keeps its memory over a step, after any list of steps.
use Rattle.std.proofs.Common.{◌≡◌, ◌≢◌, ℕ, suc, ◌<◌, ◌==◌, Bool, true, false, List, [], ◌∷◌, ◌++◌, Some, cond, length, refl, sym, ap, subst, ◌∙◌, inl, inr, arith}
use Rattle.std.proofs.lemmas.Bool.Decides.{eqb_tells}
use Rattle.cfm_memory.specs.Extents.{Rule, given_back, place_at}
use Rattle.cfm_memory.specs.declared.place.Place.{Place}
use Rattle.cfm_memory.specs.Instances.{Layout, bytes_at}
use Rattle.cfm_memory.specs.Reservation.{Reserves, Unreserves}
use Rattle.cfm_memory.proofs.Laws.{given_back_elsewhere}
use Rattle.cfm_store.specs.Stores.{Pair}
use Rattle.cfm_prepare.specs.Addresses.{section_of}
use Rattle.cfm_prepare.specs.Fragments.{Present, all_given_back, is_present, places_of, present_at}
use Rattle.cfm_prepare.proofs.PlacedLemmas.{placed-pairs, placed-new}
use Rattle.cfm_prepare.proofs.GroupLemmas.{ArePairApart, turned}
use Rattle.cfm_prepare.specs.Options.{Choices}
use Rattle.cfm_prepare.specs.Contexts.{ContextState, Open, made_state, is_needed, needed_of, unneeded_of}
use Rattle.cfm_prepare.specs.Runs.{Keeps, Runs, Step, Takes, closed, freed, prepared, prepared_given, reserved, stored, taken_out}
use Rattle.cfm_prepare.specs.Steps.{Closes, PreparesBy, PutsBack, TakesOut}
use Rattle.cfm_prepare.proofs.RunLemmas.{present-needed}

-- a fact of each of some fragments
abbrev pub AllBy : (Present → Type 0) → List Present → Type 0
AllBy P [] = Unit {0}
AllBy P (f ∷ fs) = P f × AllBy P fs

pub all-append : (P : Present → Type 0) (xs ys : List Present) → AllBy P xs → AllBy P ys → AllBy P (xs ++ ys)
all-append P [] ys left right = right
all-append P (f ∷ xs) ys left right = (left.0, all-append P xs ys left.1 right)

pub all-index : (P : Present → Type 0) (fs : List Present) → ((i : ℕ) → i < length fs → P (present_at fs i)) → AllBy P fs
all-index P [] each = tt
all-index P (f ∷ fs) each = (each 0 (omega arith), all-index P fs (λ i under. each (suc i) (omega (arith, under))))

pub all-map : (P Q : Present → Type 0) (fs : List Present) → ((f : Present) → P f → Q f) → AllBy P fs → AllBy Q fs
all-map P Q [] gives all = tt
all-map P Q (f ∷ fs) gives all = (gives f all.0, all-map P Q fs gives all.1)

pub all-both : (P Q R : Present → Type 0) (fs : List Present) → ((f : Present) → P f → Q f → R f) → AllBy P fs → AllBy Q fs → AllBy R fs
all-both P Q R [] gives all also = tt
all-both P Q R (f ∷ fs) gives all also = (gives f all.0 also.0, all-both P Q R fs gives all.1 also.1)

chosen : (P : Present → Type 0) (b : Bool) (f : Present) (fs : List Present) → P f → AllBy P fs → AllBy P (cond b (f ∷ fs) fs)
chosen P true f fs here rest = (here, rest)
chosen P false f fs here rest = rest

passed : (P : Present → Type 0) (b : Bool) (f : Present) (fs : List Present) → P f → AllBy P fs → AllBy P (cond b fs (f ∷ fs))
passed P true f fs here rest = rest
passed P false f fs here rest = (here, rest)

pub all-needed : (P : Present → Type 0) (os : List Open) (fs : List Present) → AllBy P fs → AllBy P (needed_of os fs)
all-needed P os [] all = tt
all-needed P os (f ∷ fs) all = chosen P (is_needed os f.position) f (needed_of os fs) all.0 (all-needed P os fs all.1)

all-unneeded : (P : Present → Type 0) (os : List Open) (fs : List Present) → AllBy P fs → AllBy P (unneeded_of os fs)
all-unneeded P os [] all = tt
all-unneeded P os (f ∷ fs) all = passed P (is_needed os f.position) f (unneeded_of os fs) all.0 (all-unneeded P os fs all.1)

-- no two sections of different fragments have one address
abbrev pub AreApartAll : List Present → Type 0
AreApartAll [] = Unit {0}
AreApartAll (f ∷ fs) = AllBy (ArePairApart f) fs × AreApartAll fs

apart-append : (xs ys : List Present) → AreApartAll xs → AreApartAll ys → AllBy (λ f. AllBy (ArePairApart f) ys) xs → AreApartAll (xs ++ ys)
apart-append [] ys left right cross = right
apart-append (f ∷ xs) ys left right cross = (all-append (ArePairApart f) xs ys left.0 cross.0, apart-append xs ys left.1 right cross.1)

apart-index : (fs : List Present) → ((i j : ℕ) → i < length fs → j < length fs → i ≢ j → ArePairApart (present_at fs i) (present_at fs j)) → AreApartAll fs
apart-index [] apart = tt
apart-index (f ∷ fs) apart = (
  all-index (ArePairApart f) fs (λ i under. apart 0 (suc i) (omega arith) (omega (arith, under)) (λ e. absurd (omega (arith, e)))),
  apart-index fs (λ i j under high other. apart (suc i) (suc j) (omega (arith, under)) (omega (arith, high)) (λ e. other (omega (arith, e)))),
)

chosen-apart : (b : Bool) (f : Present) (fs : List Present) → AllBy (ArePairApart f) fs → AreApartAll fs → AreApartAll (cond b (f ∷ fs) fs)
chosen-apart true f fs here rest = (here, rest)
chosen-apart false f fs here rest = rest

apart-needed : (os : List Open) (fs : List Present) → AreApartAll fs → AreApartAll (needed_of os fs)
apart-needed os [] apart = tt
apart-needed os (f ∷ fs) apart = chosen-apart (is_needed os f.position) f (needed_of os fs) (all-needed (ArePairApart f) os fs apart.0) (apart-needed os fs apart.1)

-- those that are kept are apart from those that are released
abbrev AreParted : List Present → List Present → Type 0
AreParted ns us = AllBy (λ h. AllBy (λ g. ArePairApart g h) us) ns

parted-at : (b : Bool) (f : Present) (ns us : List Present) → AllBy (ArePairApart f) ns → AllBy (ArePairApart f) us → AreParted ns us → AreParted (cond b (f ∷ ns) ns) (cond b us (f ∷ us))
parted-at true f ns us kept gone rest = (all-map (ArePairApart f) (λ g. ArePairApart g f) us (λ g. turned f g) gone, rest)
parted-at false f ns us kept gone rest =
    all-both (ArePairApart f) (λ h. AllBy (λ g. ArePairApart g h) us) (λ h. AllBy (λ g. ArePairApart g h) (f ∷ us)) ns (λ h here others. (here, others)) kept rest

parted : (os : List Open) (fs : List Present) → AreApartAll fs → AreParted (needed_of os fs) (unneeded_of os fs)
parted os [] apart = tt
parted os (f ∷ fs) apart =
    parted-at (is_needed os f.position) f (needed_of os fs) (unneeded_of os fs) (all-needed (ArePairApart f) os fs apart.0) (all-unneeded (ArePairApart f) os fs apart.0) (parted os fs apart.1)

-- each section has bytes
abbrev pub IsThere : Layout → Present → Type 0
IsThere m f = (k : ℕ) → k < length f.places → (bytes : List ℕ) × (bytes_at m.instances (place_at f.places k).address ≡ Some bytes)

keeps-apart : (m : Layout) (gs : List Present) (f : Present) → AllBy (λ g. ArePairApart g f) gs → Keeps m (all_given_back m gs) f.places
keeps-apart m [] f apart k under = refl
keeps-apart m (g ∷ gs) f apart k under =
    keeps-apart (given_back m g.places) gs f apart.1 k under ∙ given_back_elsewhere m g.places (place_at f.places k).address (λ a low. apart.0 a k low under)

there-kept : (m after : Layout) (f : Present) → IsThere m f → Keeps m after f.places → IsThere after f
there-kept m after f there keeps k under = ((there k under).0, keeps k under ∙ (there k under).1)

-- the invariant of a state
pub record IsLaid (s : ContextState) : Type 0 where
  pub there : AllBy (IsThere s.memory) s.present
  pub apart : AreApartAll s.present

apart-new : {rule : Rule} (pairs : List Pair) (s t : ContextState) (name : List ℕ) (number : ℕ) (step : PreparesBy rule s name number t) (f : Present) → IsThere s.memory f → AllBy (λ g. ArePairApart g f) step.fresh
apart-new {rule} pairs s t name number step f there =
    let are = step.prepared.are in
    all-index (λ g. ArePairApart g f) step.fresh (λ i under a b low less same.
    placed-new rule s.pairs s.memory step.fresh are.empty i a (place_at f.places b).address (there b less).0 are.placed under low (there b less).1 (sym same))

pub kept-new : {rule : Rule} (pairs : List Pair) (s t : ContextState) (name : List ℕ) (number : ℕ) (step : PreparesBy rule s name number t) (f : Present) → IsThere s.memory f → Keeps s.memory t.memory f.places
kept-new pairs s t name number step f there k under =
    sym (keeps-apart t.memory step.fresh f (apart-new pairs s t name number step f there) k under) ∙ ap (λ (m : Layout). bytes_at m.instances (place_at f.places k).address) step.prepared.others

pub laid-prepare : {rule : Rule} (pairs : List Pair) (s t : ContextState) (name : List ℕ) (number : ℕ) → IsLaid s → PreparesBy rule s name number t → IsLaid t
laid-prepare {rule} pairs s t name number laid step =
    let are = step.prepared.are in
    let old = all-map (IsThere s.memory) (IsThere t.memory) s.present (λ f there. there-kept s.memory t.memory f there (kept-new pairs s t name number step f there)) laid.there in
    let new = all-index (IsThere t.memory) step.fresh (λ i under k low. (section_of s.pairs (s.present ++ step.fresh) (present_at step.fresh i) k, step.prepared.stand i under k low)) in
    let cross = all-map (IsThere s.memory) (λ f. AllBy (ArePairApart f) step.fresh) s.present
    (λ f there. all-map (λ g. ArePairApart g f) (ArePairApart f) step.fresh (λ g. turned g f) (apart-new pairs s t name number step f there)) laid.there in
    record {
      there = subst (AllBy (IsThere t.memory)) (sym step.present) (all-append (IsThere t.memory) s.present step.fresh old new);
      apart = subst AreApartAll (sym step.present) (apart-append s.present step.fresh laid.apart (apart-index step.fresh (placed-pairs rule s.pairs s.memory step.fresh are.empty are.placed)) cross);
    }

-- those that are kept by a closing keep their bytes
pub kept-close : (s t : ContextState) (number : ℕ) → IsLaid s → Closes s number t → AllBy (λ f. Keeps s.memory t.memory f.places) (needed_of t.connections s.present)
kept-close s t number laid step =
    let us = unneeded_of t.connections s.present in
    all-map (λ f. AllBy (λ g. ArePairApart g f) us) (λ f. Keeps s.memory t.memory f.places) (needed_of t.connections s.present)
    (λ f apart. subst (λ (m : Layout). Keeps s.memory m f.places) (sym step.memory) (keeps-apart s.memory us f apart)) (parted t.connections s.present laid.apart)

pub laid-close : (s t : ContextState) (number : ℕ) → IsLaid s → Closes s number t → IsLaid t
laid-close s t number laid step =
    let kept = needed_of t.connections s.present in
    record {
      there = subst (AllBy (IsThere t.memory)) (sym step.present)
          (all-both (IsThere s.memory) (λ f. Keeps s.memory t.memory f.places) (IsThere t.memory) kept (λ f. there-kept s.memory t.memory f) (all-needed (IsThere s.memory) t.connections s.present laid.there) (kept-close s t number laid step));
      apart = subst AreApartAll (sym step.present) (apart-needed t.connections s.present laid.apart);
    }

pub laid-store : (s t : ContextState) (pairs : List Pair) → IsLaid s → t ≡ record s { pairs = pairs } → IsLaid t
laid-store s t pairs laid is = subst IsLaid (sym is) (record { there = laid.there; apart = laid.apart })

-- a reservation leaves the instances as they are
reserves-instances : (m after : Layout) (address size : ℕ) → Reserves m address size after → after.instances ≡ m.instances
reserves-instances m after address size (inl none) = ap (λ (k : Layout). k.instances) none.1
reserves-instances m after address size (inr some) = ap (λ (k : Layout). k.instances) some.2

pub reserves-keeps : (m after : Layout) (address size : ℕ) (places : List Place) → Reserves m address size after → Keeps m after places
reserves-keeps m after address size places reserves k under = ap (λ xs. bytes_at xs (place_at places k).address) (reserves-instances m after address size reserves)

pub laid-reserve : (s t : ContextState) (address size : ℕ) → IsLaid s → TakesOut s address size t → IsLaid t
laid-reserve s t address size laid step = subst IsLaid (sym step.is) (record {
  there = all-map (IsThere s.memory) (IsThere step.memory) s.present (λ f there. there-kept s.memory step.memory f there (reserves-keeps s.memory step.memory address size f.places step.reserves)) laid.there;
  apart = laid.apart;
})

-- nor does a range that is given back change them
frees-instances : (m after : Layout) (address size : ℕ) → Unreserves m address size after → after.instances ≡ m.instances
frees-instances m after address size (inl none) = ap (λ (k : Layout). k.instances) none.1
frees-instances m after address size (inr some) = ap (λ (k : Layout). k.instances) some.2

pub frees-keeps : (m after : Layout) (address size : ℕ) (places : List Place) → Unreserves m address size after → Keeps m after places
frees-keeps m after address size places frees k under = ap (λ xs. bytes_at xs (place_at places k).address) (frees-instances m after address size frees)

pub laid-free : (s t : ContextState) (address size : ℕ) → IsLaid s → PutsBack s address size t → IsLaid t
laid-free s t address size laid step = subst IsLaid (sym step.is) (record {
  there = all-map (IsThere s.memory) (IsThere step.memory) s.present (λ f there. there-kept s.memory step.memory f there (frees-keeps s.memory step.memory address size f.places step.frees)) laid.there;
  apart = laid.apart;
})

laid-all : (pairs : List Pair) (s t : ContextState) (steps : List Step) → IsLaid s → Runs s steps t → IsLaid t
laid-all pairs s t [] laid run = subst IsLaid (sym run) laid
laid-all pairs s t (prepared name number ∷ steps) laid run = laid-all pairs run.0 t steps (laid-prepare pairs s run.0 name number laid run.1) run.2
laid-all pairs s t (prepared_given name addresses number ∷ steps) laid run = laid-all pairs run.0 t steps (laid-prepare pairs s run.0 name number laid run.1) run.2
laid-all pairs s t (closed number ∷ steps) laid run = laid-all pairs run.0 t steps (laid-close s run.0 number laid run.1) run.2
laid-all pairs s t (reserved address size ∷ steps) laid run = laid-all pairs run.0 t steps (laid-reserve s run.0 address size laid run.1) run.2
laid-all pairs s t (freed address size ∷ steps) laid run = laid-all pairs run.0 t steps (laid-free s run.0 address size laid run.1) run.2
laid-all pairs s t (stored name bytes ∷ steps) laid run = laid-all pairs run.0 t steps (laid-store s run.0 _ laid run.1.is) run.2
laid-all pairs s t (taken_out name ∷ steps) laid run = laid-all pairs run.0 t steps (laid-store s run.0 _ laid run.1.is) run.2

-- a fact of the places of all fragments is one of those of a fragment
places-keep : (m after : Layout) (fs : List Present) (p : ℕ) → AllBy (λ f. Keeps m after f.places) fs → Keeps m after (places_of fs p)
places-keep m after [] p all k under = absurd (omega arith)
places-keep m after (f ∷ fs) p all k under = elim (eqb_tells f.position p) [
  | inl same ↦ (let low : k < length f.places = rw same.0 at under in rw same.0 (all.0 k low))
  | inr other ↦ (let low : k < length (places_of fs p) = rw other.0 at under in rw other.0 (places-keep m after fs p all.1 k low))
]

pub places-before : (xs ys : List Present) (p : ℕ) → is_present xs p ≡ true → places_of (xs ++ ys) p ≡ places_of xs p
places-before [] ys p is = absurd (cc)
places-before (f ∷ xs) ys p is = elim (eqb_tells f.position p) [
  | inl same ↦ rw same.0 refl
  | inr other ↦ (let left : is_present xs p ≡ true = rw other.0 at is in rw other.0 (places-before xs ys p left))
]

choose-places : (b : Bool) (f : Present) (ns fs : List Present) (p : ℕ) → (f.position ≡ p → b ≡ true) → places_of ns p ≡ places_of fs p → places_of (cond b (f ∷ ns) ns) p ≡ places_of (f ∷ fs) p
choose-places true f ns fs p needed rest = ap (λ ps. cond (f.position == p) f.places ps) rest
choose-places false f ns fs p needed rest = elim (eqb_tells f.position p) [
  | inl same ↦ (let wrong : false ≡ true = needed same.1 in absurd (cc))
  | inr other ↦ rw other.0 rest
]

pub places-needed : (os : List Open) (fs : List Present) (p : ℕ) → is_needed os p ≡ true → places_of (needed_of os fs) p ≡ places_of fs p
places-needed os [] p is = refl
places-needed os (f ∷ fs) p is = choose-places (is_needed os f.position) f (needed_of os fs) fs p (λ same. ap (is_needed os) same ∙ is) (places-needed os fs p is)

both-true : (b c : Bool) → cond b c false ≡ true → b ≡ true
both-true true c is = refl
both-true false c is = is

prepare-keeps : {rule : Rule} (pairs : List Pair) (s t : ContextState) (name : List ℕ) (number p : ℕ) → IsLaid s → PreparesBy rule s name number t → is_present s.present p ≡ true
    → (places_of t.present p ≡ places_of s.present p) × Keeps s.memory t.memory (places_of s.present p)
prepare-keeps pairs s t name number p laid step was = (
  ap (λ fs. places_of fs p) step.present ∙ places-before s.present step.fresh p was,
  places-keep s.memory t.memory s.present p (all-map (IsThere s.memory) (λ f. Keeps s.memory t.memory f.places) s.present (kept-new pairs s t name number step) laid.there),
)

step-keeps : (pairs : List Pair) (s t : ContextState) (x : Step) (p : ℕ) → IsLaid s → Takes s x t → is_present s.present p ≡ true → is_present t.present p ≡ true
    → (places_of t.present p ≡ places_of s.present p) × Keeps s.memory t.memory (places_of s.present p)
step-keeps pairs s t (prepared name number) p laid step was is = prepare-keeps pairs s t name number p laid step was
step-keeps pairs s t (prepared_given name addresses number) p laid step was is = prepare-keeps pairs s t name number p laid step was
step-keeps pairs s t (closed number) p laid step was is =
    let here : cond (is_needed t.connections p) (is_present s.present p) false ≡ true = sym (ap (λ fs. is_present fs p) step.present ∙ present-needed t.connections s.present p) ∙ is in
    let same = places-needed t.connections s.present p (both-true (is_needed t.connections p) (is_present s.present p) here) in (
      ap (λ fs. places_of fs p) step.present ∙ same,
      subst (Keeps s.memory t.memory) same (places-keep s.memory t.memory (needed_of t.connections s.present) p (kept-close s t number laid step)),
    )
step-keeps pairs s t (reserved address size) p laid step was is = (
  ap (λ (t : ContextState). places_of t.present p) step.is,
  subst (λ (t : ContextState). Keeps s.memory t.memory (places_of s.present p)) (sym step.is) (reserves-keeps s.memory step.memory address size (places_of s.present p) step.reserves),
)
step-keeps pairs s t (freed address size) p laid step was is = (
  ap (λ (t : ContextState). places_of t.present p) step.is,
  subst (λ (t : ContextState). Keeps s.memory t.memory (places_of s.present p)) (sym step.is) (frees-keeps s.memory step.memory address size (places_of s.present p) step.frees),
)
step-keeps pairs s t (stored name bytes) p laid step was is = (
  ap (λ (t : ContextState). places_of t.present p) step.is,
  subst (λ (t : ContextState). Keeps s.memory t.memory (places_of s.present p)) (sym step.is) (λ k under. refl),
)
step-keeps pairs s t (taken_out name) p laid step was is = (
  ap (λ (t : ContextState). places_of t.present p) step.is,
  subst (λ (t : ContextState). Keeps s.memory t.memory (places_of s.present p)) (sym step.is) (λ k under. refl),
)

pub run-keeps : (pairs : List Pair) (choices : Choices) (steps : List Step) (s t : ContextState) (x : Step) (p : ℕ) → Runs (made_state pairs choices) steps s → Takes s x t → is_present s.present p ≡ true → is_present t.present p ≡ true
    → (places_of t.present p ≡ places_of s.present p) × Keeps s.memory t.memory (places_of s.present p)
run-keeps pairs choices steps s t x p run step was is = step-keeps pairs s t x p (laid-all pairs (made_state pairs choices) s steps (record { there = tt; apart = tt }) run) step was is
