-- A store of one fragment: its closure has only that fragment, and so does a context in which it is prepared.
use Rattle.std.proofs.Common.{◌≡◌, ℕ, ◌≤◌, Bool, true, false, cond, List, [], ◌∷◌, ◌++◌, Option, None, Some, Result, Ok, Err, codes, length, refl, sym, ap, ap₂, subst, ◌∙◌, arith}
use Rattle.std.proofs.lemmas.List.{length-append}
use Rattle.cfm_store.specs.Stores.{Pair, place_of}
use Rattle.cfm_closure.specs.Faults.{BindRefusal}
use Rattle.cfm_closure.specs.Walk.{order_of, unwalked}
use Rattle.cfm_closure.specs.Closures.{Closed, closed_of, first_refused}
use Rattle.cfm_closure.specs.Initialization.{init_order_of, is_ready, take_next, take_ready}
use Rattle.cfm_closure.proofs.Laws.{closed-complete, closed-root}
use Rattle.cfm_memory.specs.Extents.{at_lowest, given_back}
use Rattle.cfm_memory.specs.Instances.{Layout}
use Rattle.cfm_memory.specs.declared.place.Place.{Place}
use Rattle.cfm_prepare.specs.Fragments.{Present, places_of, positions, new_among}
use Rattle.cfm_prepare.specs.Placing.{ArePrepared}
use Rattle.cfm_prepare.specs.Contexts.{ContextState, Open, fresh_state, open_of}
use Rattle.cfm_prepare.specs.Now.{IsPreparedNow}
use Rattle.cfm_prepare.specs.Steps.{HasClosure, Prepares, new_of}
use Rattle.pef_words.specs.Refusals.{unless}
use Rattle.pef_words.specs.Results.{◌>>=◌}

-- the last fragment of an order that has no more than one is the only one
only-one : (front order : List ℕ) → order ≡ front ++ 0 ∷ [] → length order ≤ 1 → order ≡ 0 ∷ []
only-one [] order is few = is
only-one (x ∷ front) order is few =
    let long = ap length is in
    let more = length-append front (0 ∷ []) in
    absurd (omega (arith, few, long, more))

module _ (it : Pair) where
  abbrev alone : List Pair
  alone = it ∷ []

  -- the closure of that fragment
  abbrev pub closed-alone : Closed
  closed-alone = record { pairs = alone; order = 0 ∷ []; init_order = 0 ∷ [] }

  abbrev closing : List ℕ → List ℕ → Result Closed BindRefusal
  closing order init = Ok (record { pairs = alone; order = order; init_order = init })

  order-alone : (c : Closed) → closed_of alone 0 ≡ Ok c → c.order ≡ 0 ∷ []
  order-alone c is =
      let last = closed-root alone 0 c (omega arith) is in
      only-one last.0 c.order last.1 (closed-complete alone 0 c is).count

  ok-same : (a b : List ℕ) → ◌≡◌ {A = Result (List ℕ) BindRefusal} (Ok a) (Ok b) → a ≡ b
  ok-same a b same = cc

  -- it is initialized once
  init-alone : (init : List ℕ) → init_order_of alone (0 ∷ []) ≡ Ok init → init ≡ 0 ∷ []
  unfolding init_order_of take_ready
  init-alone init is = by (is_ready alone (unwalked alone) 0) is
    where
      by : (b : Bool) → take_next (take_ready 0 alone (0 ∷ [])) alone (0 ∷ []) (unwalked alone) (cond b (Some 0) None) ≡ Ok init → init ≡ 0 ∷ []
      by true is = sym (ok-same (0 ∷ []) init is)
      by false is = absurd (cc)

  came : (c : Closed) (order init : List ℕ) → closed_of alone 0 ≡ Ok c → init_order_of alone order ≡ Ok init → closing order init ≡ Ok c → c ≡ closed-alone
  came c order init is taken same =
      let whole : Closed = record { pairs = alone; order = order; init_order = init } in
      let e : whole ≡ c = cc in
      let one : order ≡ 0 ∷ [] = ap (λ (x : Closed). x.order) e ∙ order-alone c is in
      let two : init ≡ 0 ∷ [] = init-alone init (subst (λ (o : List ℕ). init_order_of alone o ≡ Ok init) one taken) in
      sym e ∙ ap₂ (λ (o i : List ℕ). record { pairs = alone; order = o; init_order = i }) one two

  -- there is no other closure
  pub closed-is : (c : Closed) → closed_of alone 0 ≡ Ok c → c ≡ closed-alone
  unfolding closed_of
  closed-is c is = walked (order_of alone 0) is
    where
      ordered : (order : List ℕ) (r : Result (List ℕ) BindRefusal) → init_order_of alone order ≡ r → r >>= closing order ≡ Ok c → c ≡ closed-alone
      ordered order (Ok init) was ends = came c order init is was ends
      ordered order (Err e) was ends = absurd (cc)

      passed : (order : List ℕ) (o : Option BindRefusal) → unless o (init_order_of alone order >>= closing order) ≡ Ok c → c ≡ closed-alone
      passed order None ends = ordered order (init_order_of alone order) refl ends
      passed order (Some e) ends = absurd (cc)

      walked : (r : Result (List ℕ) BindRefusal) → r >>= (λ order. unless (first_refused alone order) (init_order_of alone order >>= closing order)) ≡ Ok c → c ≡ closed-alone
      walked (Ok order) ends = passed order (first_refused alone order) ends
      walked (Err e) ends = absurd (cc)

-- the fragments of one position
record IsFirst (fresh : List Present) : Type 0 where
  places : List Place
  is : fresh ≡ (record { position = 0; places = places }) ∷ []

is-first : (fresh : List Present) → positions fresh ≡ 0 ∷ [] → IsFirst fresh
is-first [] is = absurd (cc)
is-first (f ∷ []) is =
    let at : f.position ≡ 0 = cc in
    record { places = f.places; is = ap (λ n. record { position = n; places = f.places } ∷ []) at }
is-first (f ∷ g ∷ fs) is = absurd (cc)

-- a fragment that is present alone was prepared in a memory, and nothing else is in it
pub record StandsAlone (pairs : List Pair) (s : ContextState) (m : Layout) : Type 0 where
  pub now : IsPreparedNow pairs s 0
  pub lowest : now.rule ≡ at_lowest
  pub first : now.before ≡ m
  pub others : given_back s.memory (places_of s.present 0) ≡ m

stands-alone : (pairs : List Pair) (s : ContextState) (m : Layout) (places : List Place) → s.present ≡ (record { position = 0; places = places }) ∷ [] → ArePrepared pairs [] m (0 ∷ []) ((record { position = 0; places = places }) ∷ []) s.memory → StandsAlone pairs s m
stands-alone pairs s m places here is = record {
  now = record {
    rule = at_lowest;
    before = m;
    empty = is.are.placed.0;
    placed = rw here is.are.placed.1;
    stand = rw here (is.stand 0 (omega arith));
  };
  lowest = refl;
  first = refl;
  others = rw here is.others;
}

-- the fragment `it` of a store of its own
abbrev pub store-of : List ℕ → List Pair
store-of bytes = (record { name = codes "it"; bytes = bytes; free = false }) ∷ []

pub root-is : (bytes : List ℕ) (root : ℕ) → place_of (store-of bytes) (codes "it") ≡ Some root → root ≡ 0
unfolding place_of
root-is bytes root is = cc

pub is-found : (bytes : List ℕ) → place_of (store-of bytes) (codes "it") ≡ None → ⊥
unfolding place_of
is-found bytes none = cc

module _ (bytes : List ℕ) (limit : ℕ) where
  abbrev it : Pair
  it = record { name = codes "it"; bytes = bytes; free = false }

  abbrev start : ContextState
  start = fresh_state (store-of bytes) limit

  -- it has one closure
  pub closure-is : (has : HasClosure start (codes "it")) → has.closed ≡ closed-alone it
  closure-is has =
      let P : ℕ → Type 0 = λ root. closed_of (store-of bytes) root ≡ Ok has.closed in
      closed-is it has.closed (subst P (root-is bytes has.has.root has.has.is) has.is)

  pub new-is : (has : HasClosure start (codes "it")) → new_of start has.closed ≡ 0 ∷ []
  new-is has = ap (new_of start) (closure-is has)

  module _ (s : ContextState) (number : ℕ) (done : Prepares start (codes "it") number s) where
    -- its connection is the only one
    abbrev pub opened : Open
    opened = record { number = 0; root = 0; closed = closed-alone it; placed = 0 ∷ [] }

    pub open-is : open_of s.connections number ≡ Some opened
    open-is =
        let root = root-is bytes done.closure.has.root done.closure.has.is in
        ap₂ open_of done.connections done.number ∙ ap₂ (λ (r : ℕ) (c : Closed). Some (record { number = 0; root = r; closed = c; placed = new_among [] c.init_order })) root (closure-is done.closure)

    -- and so is the fragment
    pub prepared-alone : StandsAlone (store-of bytes) s start.memory
    prepared-alone =
        let f = is-first done.fresh (done.prepared.are.are ∙ new-is done.closure) in
        let P : List Present → Type 0 = λ fresh. ArePrepared (store-of bytes) [] start.memory (new_of start done.closure.closed) fresh s.memory in
        let Q : List ℕ → Type 0 = λ new. ArePrepared (store-of bytes) [] start.memory new ((record { position = 0; places = f.places }) ∷ []) s.memory in
        stands-alone (store-of bytes) s start.memory f.places (done.present ∙ f.is) (subst Q (new-is done.closure) (subst P f.is done.prepared))
