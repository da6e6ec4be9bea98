-- After any list of steps the fragments that are present are those of the open connections' closures.
use Rattle.std.proofs.Common.{◌≡◌, ℕ, ◌==◌, ◌<◌, ◌≤◌, Bool, true, false, List, [], ◌∷◌, ◌++◌, Ok, Some, cond, refl, sym, ap, subst, ◌∙◌, inl, inr, length, arith}
use Rattle.std.proofs.lemmas.Bool.Decides.{eqb_tells}
use Rattle.cfm_memory.specs.Extents.{Rule}
use Rattle.cfm_store.specs.Stores.{Pair, place_of}
use Rattle.std.specs.Prelude.{option_map, IsSome, ◌⊎◌}
use Rattle.std.specs.Result.{result_ok}
use Rattle.cfm_store.specs.Additions.{with_put, without_pair}
use Rattle.cfm_closure.specs.Additions.{MayBeAdded, NamesLibrary}
use Rattle.cfm_closure.specs.Fragments.{Fragment, fragment_of}
use Rattle.cfm_closure.specs.Targets.{target_of}
use Rattle.cfm_closure.specs.Closures.{Closed, closed_of}
use Rattle.cfm_store.proofs.Laws.{new-longer, place_of-below, removed-longer}
use Rattle.cfm_closure.proofs.Laws.{AreSame, closed-complete, closed-same, closed-store, fragment_of-same, new-same, removed-same, target-same}
use Rattle.cfm_prepare.specs.Lists.{has}
use Rattle.cfm_prepare.proofs.ListLemmas.{has-at, has-contains}
use Rattle.cfm_prepare.specs.Fragments.{Present, is_present, new_among}
use Rattle.pef_words.proofs.Laws.Tests.{cond-later}
use Rattle.cfm_prepare.proofs.SlotLemmas.{present-append}
use Rattle.cfm_prepare.proofs.FoundLemmas.{present-has}
use Rattle.cfm_prepare.specs.Options.{Choices}
use Rattle.cfm_prepare.specs.Contexts.{ContextState, Open, made_state, is_needed, needed_of, open_without, opened}
use Rattle.cfm_prepare.specs.Runs.{AreClosed, IsStill, Runs, Step, closed, freed, prepared, prepared_given, reserved, stored, taken_out}
use Rattle.cfm_prepare.specs.Removals.{Removes}
use Rattle.cfm_prepare.specs.Steps.{Adds, AnyNames, Closes, PreparesBy, PutsBack, TakesOut}

pub never : (b : Bool) → false ≡ cond b false false
never true = refl
never false = refl

-- a new one is of the order, and wasn't there
pub new-at : (b c : Bool) (q p : ℕ) (news ps : List ℕ) → (q ≡ p → b ≡ c) → has news p ≡ cond c false (has ps p) → has (cond b news (q ∷ news)) p ≡ cond c false (has (q ∷ ps) p)
new-at true true q p news ps same later = later
new-at true false q p news ps same later = elim (eqb_tells q p) [
  | inl is ↦ (let wrong : true ≡ false = same is.1 in absurd (cc))
  | inr other ↦ rw other.0 later
]
new-at false true q p news ps same later = elim (eqb_tells q p) [
  | inl is ↦ (let wrong : false ≡ true = same is.1 in absurd (cc))
  | inr other ↦ rw other.0 later
]
new-at false false q p news ps same later = ap (λ b. cond (q == p) true b) later

pub has-new : (fs : List Present) (ps : List ℕ) (p : ℕ) → has (new_among fs ps) p ≡ cond (is_present fs p) false (has ps p)
has-new fs [] p = never (is_present fs p)
has-new fs (q ∷ ps) p = new-at (is_present fs q) (is_present fs p) q p (new_among fs ps) ps (λ is. ap (is_present fs) is) (has-new fs ps p)

-- one connection more needs it, or one of those that were open
pub needed-either : (os : List Open) (o : Open) (p : ℕ) → is_needed (os ++ o ∷ []) p ≡ cond (is_needed os p) true (has o.closed.order p)
needed-either [] o p = last (has o.closed.order p)
  where
    last : (b : Bool) → cond b true false ≡ b
    last true = refl
    last false = refl
needed-either (x ∷ os) o p = first (has x.closed.order p) (is_needed os p) (is_needed (os ++ o ∷ []) p) (has o.closed.order p) (needed-either os o p)
  where
    first : (a b c d : Bool) → c ≡ cond b true d → cond a true c ≡ cond (cond a true b) true d
    first true b c d is = refl
    first false b c d is = is

both : (b h : Bool) → cond b true (cond b false h) ≡ cond b true h
both true h = refl
both false h = refl

-- those that are needed are kept
kept-at : (b c : Bool) (q p : ℕ) (kept here : Bool) → (q ≡ p → b ≡ c) → kept ≡ cond c here false → cond b (cond (q == p) true kept) kept ≡ cond c (cond (q == p) true here) false
kept-at true true q p kept here same later = ap (λ x. cond (q == p) true x) later
kept-at true false q p kept here same later = elim (eqb_tells q p) [
  | inl is ↦ (let wrong : true ≡ false = same is.1 in absurd (cc))
  | inr other ↦ rw other.0 later
]
kept-at false true q p kept here same later = elim (eqb_tells q p) [
  | inl is ↦ (let wrong : false ≡ true = same is.1 in absurd (cc))
  | inr other ↦ rw other.0 later
]
kept-at false false q p kept here same later = later

choice : (b : Bool) (f : Present) (fs : List Present) (p : ℕ) → is_present (cond b (f ∷ fs) fs) p ≡ cond b (cond (f.position == p) true (is_present fs p)) (is_present fs p)
choice true f fs p = refl
choice false f fs p = refl

pub present-needed : (os : List Open) (fs : List Present) (p : ℕ) → is_present (needed_of os fs) p ≡ cond (is_needed os p) (is_present fs p) false
present-needed os [] p = never (is_needed os p)
present-needed os (f ∷ fs) p =
    choice (is_needed os f.position) f (needed_of os fs) p
    ∙ kept-at (is_needed os f.position) (is_needed os p) f.position p (is_present (needed_of os fs) p) (is_present fs p) (λ is. ap (is_needed os) is) (present-needed os fs p)

-- a fragment that is needed without a connection is needed with it
needed-without : (os : List Open) (number p : ℕ) → is_needed (open_without os number) p ≡ true → is_needed os p ≡ true
needed-without [] number p is = is
needed-without (o ∷ os) number p is = elim (eqb_tells o.number number) [
  | inl same ↦ (let left : is_needed os p ≡ true = rw same.0 at is in cond-later (has o.closed.order p) (is_needed os p) left)
  | inr other ↦ (let left : cond (has o.closed.order p) true (is_needed (open_without os number) p) ≡ true = rw other.0 at is in first (has o.closed.order p) (is_needed (open_without os number) p) (is_needed os p) left (needed-without os number p))
]
  where
    first : (a b c : Bool) → cond a true b ≡ true → (b ≡ true → c ≡ true) → cond a true c ≡ true
    first true b c is later = refl
    first false b c is later = later is

within : (b c : Bool) → (b ≡ true → c ≡ true) → cond b c false ≡ b
within true c gives = gives refl
within false c gives = refl

-- the closures of open connections
closed-push : (pairs : List Pair) (os : List Open) (o : Open) → AreClosed pairs os → IsStill pairs o → AreClosed pairs (os ++ o ∷ [])
closed-push pairs [] o are is = (is, tt)
closed-push pairs (x ∷ os) o are is = (are.0, closed-push pairs os o are.1 is)

-- the store has a name, or no fragment of an open connection's closure has a library entry with it
abbrev pub MayStay : List Pair → Open → List ℕ → Type 0
MayStay pairs o name = IsSome (place_of pairs name) ⊎ (NamesLibrary o.closed.pairs o.closed.order name → ⊥)

abbrev pub AllMayStay : List Pair → List Open → List ℕ → Type 0
AllMayStay pairs [] name = Unit {0}
AllMayStay pairs (o ∷ os) name = MayStay pairs o name × AllMayStay pairs os name

pub all-may : (pairs : List Pair) (os : List Open) (name : List ℕ) → IsSome (place_of pairs name) ⊎ (AnyNames os name → ⊥) → AllMayStay pairs os name
all-may pairs [] name may = tt
all-may pairs (o ∷ os) name may = elim may [
  | inl has ↦ (inl has, all-may pairs os name (inl has))
  | inr none ↦ (inr (λ names. none (inl names)), all-may pairs os name (inr (λ names. none (inr names))))
]

-- the library entries of a closure are still those of its fragments
names-then : (pairs : List Pair) (o : Open) (name : List ℕ) → IsStill pairs o → NamesLibrary pairs o.closed.order name → NamesLibrary o.closed.pairs o.closed.order name
names-then pairs o name is names = record {
  fragment = names.fragment;
  member = names.member;
  loader = names.loader;
  read = sym (ap (λ r. option_map (λ (f : Fragment). f.loader) (result_ok r)) (is.fragments names.fragment names.member)) ∙ names.read;
  index = names.index;
  library = names.library;
  entry = names.entry;
  named = names.named;
}

pub may-now : (pairs : List Pair) (o : Open) (name : List ℕ) → IsStill pairs o → MayStay pairs o name → MayBeAdded pairs o.closed.order name
may-now pairs o name is may = elim may [ inl has ↦ inl has | inr none ↦ inr (λ names. none (names-then pairs o name is names)) ]

-- another store has the same fragments and bindings in the closures of open connections
abbrev pub AllSame : List Pair → List Pair → List Open → Type 0
AllSame pairs pairs' [] = Unit {0}
AllSame pairs pairs' (o ∷ os) = AreSame pairs pairs' o.closed.order × AllSame pairs pairs' os

-- so it does with a pair more
all-new : (pairs : List Pair) (n : Pair) (os : List Open) → AreClosed pairs os → AllMayStay pairs os n.name → AllSame pairs (with_put pairs n) os
all-new pairs n [] are may = tt
all-new pairs n (o ∷ os) are may = (
  new-same pairs n o.closed.order (closed-complete pairs o.root (record o.closed { pairs = pairs }) are.0.closed) (may-now pairs o n.name are.0 may.0),
  all-new pairs n os are.1 may.1,
)

-- and without a pair that no closure has or names
all-removed : (pairs : List Pair) (name : List ℕ) (p : ℕ) (os : List Open) → place_of pairs name ≡ Some p → AreClosed pairs os → is_needed os p ≡ false → (AnyNames os name → ⊥) → AllSame pairs (without_pair pairs p) os
all-removed pairs name p [] first are absent unnamed = tt
all-removed pairs name p (o ∷ os) first are absent unnamed = (
  removed-same pairs name p first o.closed.order (closed-complete pairs o.root (record o.closed { pairs = pairs }) are.0.closed)
      (λ there. neither (has o.closed.order p) (is_needed os p) absent (has-at o.closed.order p there)) (λ names. unnamed (inl (names-then pairs o name are.0 names))),
  all-removed pairs name p os first are.1 (other (has o.closed.order p) (is_needed os p) absent) (λ names. unnamed (inr names)),
)
  where
    neither : (b c : Bool) → cond b true c ≡ false → b ≡ true → ⊥
    neither true c none is = cc
    neither false c none is = cc

    other : (b c : Bool) → cond b true c ≡ false → c ≡ false
    other true c none = absurd (cc)
    other false c none = none

-- closures stay in a store that has the same
module _ (pairs pairs' : List Pair) (more : length pairs ≤ length pairs') where
  still-same : (o : Open) → AreSame pairs pairs' o.closed.order → IsStill pairs o → IsStill pairs' o
  still-same o same is =
      let now : Closed = record o.closed { pairs = pairs } in
      record {
        inside = (let inside = is.inside in omega arith);
        closed = closed-same pairs pairs' o.root now is.inside more is.closed same;
        fragments = λ p there. fragment_of-same pairs pairs' p (same p there).pair ∙ is.fragments p there;
        targets = λ p j there. target-same pairs pairs' o.root now is.inside more is.closed same p j there ∙ is.targets p j there;
      }

  still-all : (os : List Open) → AllSame pairs pairs' os → AreClosed pairs os → AreClosed pairs' os
  still-all [] same are = tt
  still-all (o ∷ os) same are = (still-same o same.0 are.0, still-all os same.1 are.1)

closed-without : (pairs : List Pair) (os : List Open) (number : ℕ) → AreClosed pairs os → AreClosed pairs (open_without os number)
closed-without pairs [] number are = are
closed-without pairs (o ∷ os) number are = elim (eqb_tells o.number number) [ inl same ↦ rw same.0 are.1 | inr other ↦ rw other.0 (are.0, closed-without pairs os number are.1) ]

-- the invariant of a state
pub record IsSound (pairs : List Pair) (s : ContextState) : Type 0 where
  pub store : s.pairs ≡ pairs
  pub closures : AreClosed pairs s.connections
  pub same : (p : ℕ) → is_present s.present p ≡ is_needed s.connections p

pub after-prepare : {rule : Rule} (pairs : List Pair) (s t : ContextState) (name : List ℕ) (number : ℕ) → IsSound pairs s → PreparesBy rule s name number t → IsSound pairs t
after-prepare pairs s t name number sound step =
    let o : Open = opened s step.closure.has.root step.closure.closed in
    let own : closed_of pairs o.root ≡ Ok o.closed = ap (λ ps. closed_of ps o.root) (sym sound.store) ∙ step.closure.is in
    let store = closed-store pairs o.root o.closed own in
    let closes : closed_of pairs o.root ≡ Ok (record o.closed { pairs = pairs }) = own ∙ ap (λ ps. Ok (record o.closed { pairs = ps })) store in
    let inside = subst (λ (ps : List Pair). o.root < length ps) sound.store (place_of-below s.pairs name o.root step.closure.has.is) in
    let still : IsStill pairs o = record {
      inside = inside;
      closed = closes;
      fragments = λ p there. ap (λ ps. fragment_of ps p) (sym store);
      targets = λ p j there. ap (λ ps. target_of ps p j) (sym store);
    } in
    record {
      store = step.pairs ∙ sound.store;
      closures = subst (AreClosed pairs) (sym step.connections) (closed-push pairs s.connections o sound.closures still);
      same = λ p.
          ap (λ fs. is_present fs p) step.present ∙ present-append s.present step.fresh p
          ∙ ap (λ b. cond (is_present s.present p) true b) (present-has step.fresh p ∙ ap (λ ps. has ps p) step.prepared.are.are ∙ has-new s.present o.closed.order p)
          ∙ both (is_present s.present p) (has o.closed.order p) ∙ ap (λ b. cond b true (has o.closed.order p)) (sound.same p)
          ∙ sym (needed-either s.connections o p) ∙ ap (λ os. is_needed os p) (sym step.connections);
    }

pub after-close : (pairs : List Pair) (s t : ContextState) (number : ℕ) → IsSound pairs s → Closes s number t → IsSound pairs t
after-close pairs s t number sound step =
    record {
      store = step.pairs ∙ sound.store;
      closures = subst (AreClosed pairs) (sym step.connections) (closed-without pairs s.connections number sound.closures);
      same = λ p.
          ap (λ fs. is_present fs p) step.present ∙ present-needed t.connections s.present p ∙ ap (λ b. cond (is_needed t.connections p) b false) (sound.same p)
          ∙ within (is_needed t.connections p) (is_needed s.connections p) (λ is. needed-without s.connections number p (ap (λ os. is_needed os p) (sym step.connections) ∙ is));
    }

-- the store changes alone, and the closures of open connections stay
pub record ChangesStore (s t : ContextState) : Type 0 where
  pub pairs : List Pair
  pub more : length s.pairs ≤ length pairs
  pub same : AllSame s.pairs pairs s.connections
  pub is : t ≡ record s { pairs = pairs }

pub stores : (s t : ContextState) (name bytes : List ℕ) → IsSound s.pairs s → Adds s name bytes t → ChangesStore s t
stores s t name bytes sound step =
    let n : Pair = record { name = name; bytes = bytes; free = false } in
    record {
      pairs = with_put s.pairs n;
      more = new-longer s.pairs n;
      same = all-new s.pairs n s.connections sound.closures (all-may s.pairs s.connections name step.may);
      is = step.is;
    }

pub removes : (s t : ContextState) (name : List ℕ) → IsSound s.pairs s → Removes s name t → ChangesStore s t
removes s t name sound step =
    let p = step.unused.root in
    record {
      pairs = without_pair s.pairs p;
      more = removed-longer s.pairs name p step.unused.is;
      same = all-removed s.pairs name p s.connections step.unused.is sound.closures (sym (sound.same p) ∙ step.unused.absent) step.unnamed;
      is = step.is;
    }

pub after-store : (s t : ContextState) → IsSound s.pairs s → ChangesStore s t → IsSound t.pairs t
after-store s t sound change =
    subst (λ (t : ContextState). IsSound t.pairs t) (sym change.is) (record {
      store = refl;
      closures = still-all s.pairs change.pairs change.more s.connections change.same sound.closures;
      same = sound.same;
    })

pub after-reserve : (s t : ContextState) (address size : ℕ) → IsSound s.pairs s → TakesOut s address size t → IsSound t.pairs t
after-reserve s t address size sound step =
    subst (λ (t : ContextState). IsSound t.pairs t) (sym step.is) (record { store = sound.store; closures = sound.closures; same = sound.same })

pub after-free : (s t : ContextState) (address size : ℕ) → IsSound s.pairs s → PutsBack s address size t → IsSound t.pairs t
after-free s t address size sound step =
    subst (λ (t : ContextState). IsSound t.pairs t) (sym step.is) (record { store = sound.store; closures = sound.closures; same = sound.same })

after-all : (s t : ContextState) (steps : List Step) → IsSound s.pairs s → Runs s steps t → IsSound t.pairs t
after-all s t [] sound run = subst (λ (t : ContextState). IsSound t.pairs t) (sym run) sound
after-all s t (prepared name number ∷ steps) sound run = after-all run.0 t steps (subst (λ ps. IsSound ps run.0) (sym run.1.pairs) (after-prepare s.pairs s run.0 name number sound run.1)) run.2
after-all s t (prepared_given name addresses number ∷ steps) sound run = after-all run.0 t steps (subst (λ ps. IsSound ps run.0) (sym run.1.pairs) (after-prepare s.pairs s run.0 name number sound run.1)) run.2
after-all s t (closed number ∷ steps) sound run = after-all run.0 t steps (subst (λ ps. IsSound ps run.0) (sym run.1.pairs) (after-close s.pairs s run.0 number sound run.1)) run.2
after-all s t (reserved address size ∷ steps) sound run = after-all run.0 t steps (after-reserve s run.0 address size sound run.1) run.2
after-all s t (freed address size ∷ steps) sound run = after-all run.0 t steps (after-free s run.0 address size sound run.1) run.2
after-all s t (stored name bytes ∷ steps) sound run = after-all run.0 t steps (after-store s run.0 sound (stores s run.0 name bytes sound run.1)) run.2
after-all s t (taken_out name ∷ steps) sound run = after-all run.0 t steps (after-store s run.0 sound (removes s run.0 name sound run.1)) run.2

pub fresh-sound : (pairs : List Pair) (choices : Choices) → IsSound pairs (made_state pairs choices)
fresh-sound pairs choices = record { store = refl; closures = tt; same = λ p. refl }

pub run-sound : (pairs : List Pair) (choices : Choices) (steps : List Step) (t : ContextState) → Runs (made_state pairs choices) steps t → IsSound t.pairs t
run-sound pairs choices steps t run = after-all (made_state pairs choices) t steps (fresh-sound pairs choices) run

pub run-present : (pairs : List Pair) (choices : Choices) (steps : List Step) (t : ContextState) (p : ℕ) → Runs (made_state pairs choices) steps t → is_present t.present p ≡ is_needed t.connections p
run-present pairs choices steps t p run = (run-sound pairs choices steps t run).same p

pub run-closed : (pairs : List Pair) (choices : Choices) (steps : List Step) (t : ContextState) → Runs (made_state pairs choices) steps t → AreClosed t.pairs t.connections
run-closed pairs choices steps t run = (run-sound pairs choices steps t run).closures

-- a fragment that an open connection's closure has is in the store
needed-inside : (pairs : List Pair) (os : List Open) (p : ℕ) → AreClosed pairs os → is_needed os p ≡ true → p < length pairs
needed-inside pairs [] p are is = absurd (cc)
needed-inside pairs (o ∷ os) p are is = by (has o.closed.order p) refl is (λ left. needed-inside pairs os p are.1 left)
  where
    by : (b : Bool) → has o.closed.order p ≡ b → cond b true (is_needed os p) ≡ true → (is_needed os p ≡ true → p < length pairs) → p < length pairs
    by true was is later = ((closed-complete pairs o.root (record o.closed { pairs = pairs }) are.0.closed).members p (has-contains o.closed.order p was)).place
    by false was is later = later is

-- so is one that is present
pub run-inside : (pairs : List Pair) (choices : Choices) (steps : List Step) (s : ContextState) (p : ℕ) → Runs (made_state pairs choices) steps s → is_present s.present p ≡ true → p < length s.pairs
run-inside pairs choices steps s p run is =
    needed-inside s.pairs s.connections p (run-closed pairs choices steps s run) (sym (run-present pairs choices steps s p run) ∙ is)
