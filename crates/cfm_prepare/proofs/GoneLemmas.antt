-- What a preparation places, and what a closing takes away.
use Rattle.std.proofs.Common.{◌≡◌, ℕ, ◌+◌, ◌-◌, ◌<◌, ◌==◌, Bool, true, false, List, [], ◌∷◌, ◌++◌, Some, Ok, Contains, cond, length, reverse, refl, sym, ap, ◌∙◌, subst, inl, inr, arith}
use Rattle.std.specs.Prelude.{◌↔◌, option_map}
use Rattle.std.proofs.lemmas.Bool.Decides.{eqb_tells}
use Rattle.std.proofs.lemmas.List.{get_or-reverse, length-reverse, reverse-reverse}
use Rattle.cfm_memory.specs.Extents.{Rule}
use Rattle.cfm_store.specs.Stores.{Pair}
use Rattle.cfm_closure.specs.Closures.{Closed, closed_of}
use Rattle.cfm_closure.proofs.Laws.{closed-init}
use Rattle.cfm_prepare.specs.Contexts.{ContextState, Open, is_needed, made_state, open_of, open_without, opened}
use Rattle.cfm_prepare.specs.Fragments.{is_present}
use Rattle.cfm_prepare.specs.Lists.{has}
use Rattle.cfm_prepare.specs.Options.{Choices}
use Rattle.cfm_prepare.specs.Readers.{needless_among, released_by}
use Rattle.cfm_prepare.specs.Runs.{AreClosed, IsStill, Runs, Step, closed, freed, prepared, prepared_given, reserved, stored, taken_out}
use Rattle.cfm_prepare.specs.Steps.{Closes, PreparesBy}
use Rattle.cfm_prepare.proofs.ListLemmas.{has-at, has-contains}
use Rattle.cfm_prepare.proofs.RunLemmas.{after-close, after-prepare, has-new, needed-either, never, new-at, run-sound}

-- a list turned round has the same elements
from-reverse : (xs : List ℕ) (p : ℕ) → Contains (reverse xs) p → Contains xs p
from-reverse xs p there =
    let long : length (reverse xs) ≡ length xs = length-reverse xs in
    let low = there.1 in
    let under : there.0 < length xs = omega (arith, low, long) in
    (length xs - 1 - there.0, omega (arith, under), sym (get_or-reverse xs there.0 p under) ∙ there.2)

to-reverse : (xs : List ℕ) (p : ℕ) → Contains xs p → Contains (reverse xs) p
to-reverse xs p there = from-reverse (reverse xs) p (subst (λ ys. Contains ys p) (sym (reverse-reverse xs)) there)

-- two lists with the same numbers have the same
has-same : (xs ys : List ℕ) (p : ℕ) → Contains xs p ↔ Contains ys p → has xs p ≡ has ys p
has-same xs ys p same = by (has xs p) (has ys p) refl refl
  where
    by : (a b : Bool) → has xs p ≡ a → has ys p ≡ b → a ≡ b
    by true true is is' = refl
    by false false is is' = refl
    by true false is is' = sym (has-at ys p (same.0 (has-contains xs p is))) ∙ is'
    by false true is is' = sym is ∙ has-at xs p (same.1 (has-contains ys p is'))

has-init : (pairs : List Pair) (root : ℕ) (c : Closed) (p : ℕ) → closed_of pairs root ≡ Ok c → has c.init_order p ≡ has c.order p
has-init pairs root c p is = has-same c.init_order c.order p ((closed-init pairs root c is).same p)

-- the fragments among some that no connection needs
has-needless : (os : List Open) (ps : List ℕ) (p : ℕ) → has (needless_among os ps) p ≡ cond (is_needed os p) false (has ps p)
has-needless os [] p = never (is_needed os p)
has-needless os (q ∷ ps) p = new-at (is_needed os q) (is_needed os p) q p (needless_among os ps) ps (λ is. ap (is_needed os) is) (has-needless os ps p)

-- a fragment that is needed is one of a connection's closure, or is needed without that
needed-split : (os : List Open) (number : ℕ) (o : Open) (p : ℕ) → open_of os number ≡ Some o → is_needed os p ≡ cond (has o.closed.order p) true (is_needed (open_without os number) p)
needed-split [] number o p is = absurd (cc)
needed-split (x ∷ os) number o p is = by (x.number == number) is (needed-split os number o p)
  where
    swap : (a b c d : Bool) → c ≡ cond b true d → cond a true c ≡ cond b true (cond a true d)
    swap true true c d same = refl
    swap true false c d same = refl
    swap false true c d same = same
    swap false false c d same = same

    by : (here : Bool) → cond here (Some x) (open_of os number) ≡ Some o → (open_of os number ≡ Some o → is_needed os p ≡ cond (has o.closed.order p) true (is_needed (open_without os number) p))
        → cond (has x.closed.order p) true (is_needed os p) ≡ cond (has o.closed.order p) true (is_needed (cond here os (x ∷ open_without os number)) p)
    by true is later = let same : x ≡ o = cc in ap (λ (o : Open). cond (has o.closed.order p) true (is_needed os p)) same
    by false is later = swap (has x.closed.order p) (has o.closed.order p) (is_needed os p) (is_needed (open_without os number) p) (later is)

-- the closure of an open connection
pub still-of : (pairs : List Pair) (os : List Open) (number : ℕ) (o : Open) → AreClosed pairs os → open_of os number ≡ Some o → IsStill pairs o
still-of pairs [] number o are is = absurd (cc)
still-of pairs (x ∷ os) number o are is = by (x.number == number) is (still-of pairs os number o are.1)
  where
    by : (here : Bool) → cond here (Some x) (open_of os number) ≡ Some o → (open_of os number ≡ Some o → IsStill pairs o) → IsStill pairs o
    by true is later = let same : x ≡ o = cc in subst (IsStill pairs) same are.0
    by false is later = later is

-- what closing a connection releases is what was present and isn't any more
pub run-released : (pairs : List Pair) (choices : Choices) (steps : List Step) (s t : ContextState) (number : ℕ) (released : List ℕ) (p : ℕ) → Runs (made_state pairs choices) steps s → Closes s number t → released_by s number ≡ Some released
    → Contains released p ↔ ((is_present s.present p ≡ true) × (is_present t.present p ≡ false))
run-released pairs choices steps s t number released p run step is =
    let sound = run-sound pairs choices steps s run in
    let o = step.closed in
    let ws = open_without s.connections number in
    let still = still-of s.pairs s.connections number o sound.closures step.was in
    let all : reverse (needless_among ws o.closed.init_order) ≡ released = cc in
    let before = sound.same p ∙ needed-split s.connections number o p step.was in
    let after = (after-close s.pairs s t number sound step).same p ∙ ap (λ os. is_needed os p) step.connections in
    let among = has-needless ws o.closed.init_order p ∙ ap (λ b. cond (is_needed ws p) false b) (has-init s.pairs o.root (record o.closed { pairs = s.pairs }) p still.closed) in
    let both = by (is_needed ws p) (has o.closed.order p) in (
      λ there. (let known = both.0 (sym among ∙ has-at (needless_among ws o.closed.init_order) p (from-reverse (needless_among ws o.closed.init_order) p (subst (λ ps. Contains ps p) (sym all) there))) in (before ∙ known.0, after ∙ known.1)),
      λ known. subst (λ ps. Contains ps p) all (to-reverse (needless_among ws o.closed.init_order) p (has-contains (needless_among ws o.closed.init_order) p (among ∙ both.1 (sym before ∙ known.0, sym after ∙ known.1)))),
    )
  where
    by : (w h : Bool) → (cond w false h ≡ true) ↔ ((cond h true w ≡ true) × (w ≡ false))
    by true h = (λ is. absurd (cc), λ is. absurd (let wrong = is.1 in cc))
    by false true = (λ is. (refl, refl), λ is. refl)
    by false false = (λ is. absurd (cc), λ is. absurd (let wrong = is.0 in cc))

-- the numbers of open connections were given
abbrev AreGiven : ℕ → List Open → Type 0
AreGiven given [] = Unit {0}
AreGiven given (o ∷ os) = (o.number < given) × AreGiven given os

given-push : (given : ℕ) (os : List Open) (o : Open) → AreGiven given os → o.number ≡ given → AreGiven (given + 1) (os ++ o ∷ [])
given-push given [] o are is = (omega (arith, is), tt)
given-push given (x ∷ os) o are is = (omega (arith, are.0), given-push given os o are.1 is)

given-without : (given number : ℕ) (os : List Open) → AreGiven given os → AreGiven given (open_without os number)
given-without given number [] are = tt
given-without given number (o ∷ os) are = by (o.number == number) (given-without given number os are.1)
  where
    by : (here : Bool) → AreGiven given (open_without os number) → AreGiven given (cond here os (o ∷ open_without os number))
    by true later = are.1
    by false later = (are.0, later)

given-opened : {rule : Rule} (s t : ContextState) (name : List ℕ) (number : ℕ) → AreGiven s.given s.connections → PreparesBy rule s name number t → AreGiven t.given t.connections
given-opened s t name number are step =
    let pushed = given-push s.given s.connections (opened s step.closure.has.root step.closure.closed) are refl in
    subst (λ os. AreGiven t.given os) (sym step.connections) (subst (λ n. AreGiven n (s.connections ++ opened s step.closure.has.root step.closure.closed ∷ [])) (sym step.given) pushed)

given-after : (s t : ContextState) (steps : List Step) → AreGiven s.given s.connections → Runs s steps t → AreGiven t.given t.connections
given-after s t [] are run = subst (λ (t : ContextState). AreGiven t.given t.connections) (sym run) are
given-after s t (prepared name number ∷ steps) are run = given-after run.0 t steps (given-opened s run.0 name number are run.1) run.2
given-after s t (prepared_given name addresses number ∷ steps) are run = given-after run.0 t steps (given-opened s run.0 name number are run.1) run.2
given-after s t (closed number ∷ steps) are run =
    let step = run.1 in
    given-after run.0 t steps (subst (λ os. AreGiven run.0.given os) (sym step.connections) (subst (λ n. AreGiven n (open_without s.connections number)) (sym step.given) (given-without s.given number s.connections are))) run.2
given-after s t (reserved address size ∷ steps) are run = given-after run.0 t steps (subst (λ (t : ContextState). AreGiven t.given t.connections) (sym run.1.is) are) run.2
given-after s t (freed address size ∷ steps) are run = given-after run.0 t steps (subst (λ (t : ContextState). AreGiven t.given t.connections) (sym run.1.is) are) run.2
given-after s t (taken_out name ∷ steps) are run = given-after run.0 t steps (subst (λ (t : ContextState). AreGiven t.given t.connections) (sym run.1.is) are) run.2
given-after s t (stored name bytes ∷ steps) are run = given-after run.0 t steps (subst (λ (t : ContextState). AreGiven t.given t.connections) (sym run.1.is) are) run.2

-- so a new connection is found by its number
open-last : (os : List Open) (o : Open) (number : ℕ) → AreGiven number os → o.number ≡ number → open_of (os ++ o ∷ []) number ≡ Some o
open-last [] o number are is = elim (eqb_tells o.number number) [ inl same ↦ rw same.0 refl | inr other ↦ absurd (other.1 is) ]
open-last (x ∷ os) o number are is = elim (eqb_tells x.number number) [
  | inl same ↦ absurd (let low = are.0 in let e = same.1 in omega (arith, low, e))
  | inr other ↦ rw other.0 (open-last os o number are.1 is)
]

pub run-opened : {rule : Rule} (pairs : List Pair) (choices : Choices) (steps : List Step) (s t : ContextState) (name : List ℕ) (number : ℕ) → Runs (made_state pairs choices) steps s → (step : PreparesBy rule s name number t)
    → open_of t.connections number ≡ Some (opened s step.closure.has.root step.closure.closed)
run-opened pairs choices steps s t name number run step =
    let o : Open = opened s step.closure.has.root step.closure.closed in
    let given = given-after (made_state pairs choices) s steps tt run in
    ap (λ os. open_of os number) step.connections ∙ ap (λ n. open_of (s.connections ++ o ∷ []) n) step.number ∙ open-last s.connections o s.given given refl

-- what a preparation places is what wasn't present and is then
pub run-placed : {rule : Rule} (pairs : List Pair) (choices : Choices) (steps : List Step) (s t : ContextState) (name : List ℕ) (number : ℕ) (placed : List ℕ) (p : ℕ) → Runs (made_state pairs choices) steps s → PreparesBy rule s name number t
    → option_map (λ o. o.placed) (open_of t.connections number) ≡ Some placed → Contains placed p ↔ ((is_present s.present p ≡ false) × (is_present t.present p ≡ true))
run-placed pairs choices steps s t name number placed p run step is =
    let sound = run-sound pairs choices steps s run in
    let o : Open = opened s step.closure.has.root step.closure.closed in
    let found = run-opened pairs choices steps s t name number run step in
    let all : o.placed ≡ placed = (let same : Some o.placed ≡ Some placed = sym (ap (option_map (λ (o : Open). o.placed)) found) ∙ is in cc) in
    let here = sound.same p in
    let after = (after-prepare s.pairs s t name number sound step).same p ∙ ap (λ os. is_needed os p) step.connections ∙ needed-either s.connections o p ∙ ap (λ b. cond b true (has o.closed.order p)) (sym here) in
    let among = has-new s.present o.closed.init_order p ∙ ap (λ b. cond (is_present s.present p) false b) (has-init s.pairs o.root o.closed p step.closure.is) in
    let both = by (is_present s.present p) (has o.closed.order p) in (
      λ there. (let known = both.0 (sym among ∙ has-at o.placed p (subst (λ ps. Contains ps p) (sym all) there)) in (known.0, after ∙ known.1)),
      λ known. subst (λ ps. Contains ps p) all (has-contains o.placed p (among ∙ both.1 (known.0, sym after ∙ known.1))),
    )
  where
    by : (b h : Bool) → (cond b false h ≡ true) ↔ ((b ≡ false) × (cond b true h ≡ true))
    by true h = (λ is. absurd (cc), λ is. absurd (let wrong = is.0 in cc))
    by false true = (λ is. (refl, refl), λ is. refl)
    by false false = (λ is. absurd (cc), λ is. absurd (let wrong = is.1 in cc))
