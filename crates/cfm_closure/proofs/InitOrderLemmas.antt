-- The order of initialization by what its fragments wait for.
use Rattle.std.proofs.Common.{◌≡◌, ℕ, zero, suc, ◌+◌, ◌<◌, ◌⊎◌, Bool, true, false, cond, not, List, [], ◌∷◌, ◌++◌, length, take, Option, None, Some, Ok, Err, refl, sym, ap, ◌∙◌, subst, get_or, inl, inr, true≢false, arith, Contains}
use Rattle.std.specs.Prelude.{Result, ◌&&◌, option_map}
use Rattle.std.specs.Option.{is_none, is_some, option_and_then, option_map_or}
use Rattle.std.specs.Result.{result_ok, result_unwrap_or}
use Rattle.std.proofs.lemmas.Bool.Decides.{eqb_tells}
use Rattle.std.proofs.lemmas.List.{get_or-replicate, get_or_append_left, get_or_at, get_or_push, length-append, length_push, take-append-le, take_at}
use Rattle.std.proofs.lemmas.List.Elements.{Contains-append_left, Contains-append_right, Contains-push, Contains-push_cases}
use Rattle.pef_format.specs.Symbols.{options_of}
use Rattle.pef_loader.specs.Library.{Library}
use Rattle.pef_loader.specs.Loader.{Loaded, library_of}
use Rattle.pef_words.specs.Refusals.{first_among}
use Rattle.pef_words.proofs.Laws.Refusals.{none_among, some_among}
use Rattle.cfm_store.specs.Stores.{Pair}
use Rattle.cfm_closure.specs.Faults.{BindRefusal}
use Rattle.cfm_closure.specs.Fragments.{Fragment, fragment_of, library_count}
use Rattle.cfm_closure.specs.Libraries.{bound_to, library_at}
use Rattle.cfm_closure.specs.Closures.{Closed, closed_of}
use Rattle.cfm_closure.specs.Orders.{IsComplete, IsInitOrder, IsNext, WantsFirst}
use Rattle.cfm_closure.specs.Walk.{Walked, is_marked, joining, marking, unwalked}
use Rattle.cfm_closure.specs.Initialization.{awaits, before_at, before_of, first_left, init_order_of, is_ready, next_ready, take_next, take_ready, taken_all}
use Rattle.cfm_closure.specs.Kept.Walks.{IsTidy}
use Rattle.cfm_closure.proofs.BoundLemmas.{library_at-is, stands_for}
use Rattle.cfm_closure.proofs.ClosedLemmas.{closed-complete, closed-init_order}
use Rattle.cfm_closure.proofs.InitLemmas.{awaits-some}
use Rattle.cfm_closure.proofs.Ranks.{contains_cases}
use Rattle.cfm_closure.proofs.WalkFacts.{here, met_before, more, once-push}

module _ (pairs : List Pair) where
  -- a fragment that is wanted first must come before
  wanted-before : (p l q : ℕ) → WantsFirst pairs p l q → before_of pairs p l ≡ Some q
  wanted-before p l q w =
      ap (λ r. before_at pairs p l (option_and_then (λ (x : Loaded). library_of x l) (option_map (λ (f : Fragment). f.loader) (result_ok r)))) w.read
      ∙ ap (before_at pairs p l) w.entry
      ∙ ap (λ b. cond b (library_at pairs p l) None) w.option
      ∙ ap (λ r. result_unwrap_or r None) w.bound

  -- and the other way round
  before-wanted : (p l q : ℕ) → before_of pairs p l ≡ Some q → WantsFirst pairs p l q
  before-wanted p l q is = by (fragment_of pairs p) refl is
    where
      option : (f : Fragment) → fragment_of pairs p ≡ Ok f → (x : Library) → library_of f.loader l ≡ Some x → (b : Bool) → (options_of x.fields.options).init_before ≡ b → cond b (library_at pairs p l) None ≡ Some q → WantsFirst pairs p l q
      option f read x there true set is = record { fragment = f; read = read; library = x; entry = there; option = set; bound = library_at-is pairs p l q is }
      option f read x there false set is = absurd (cc)

      entry : (f : Fragment) → fragment_of pairs p ≡ Ok f → (o : Option Library) → library_of f.loader l ≡ o → before_at pairs p l o ≡ Some q → WantsFirst pairs p l q
      entry f read None there is = absurd (cc)
      entry f read (Some x) there is = option f read x there (options_of x.fields.options).init_before refl is

      by : (r : Result Fragment BindRefusal) → fragment_of pairs p ≡ r → before_at pairs p l (option_and_then (λ (x : Loaded). library_of x l) (option_map (λ (f : Fragment). f.loader) (result_ok r))) ≡ Some q → WantsFirst pairs p l q
      by (Ok f) read is = entry f read (library_of f.loader l) refl is
      by (Err e) read is = absurd (cc)

  below-count : (p l q : ℕ) → bound_to pairs p l ≡ Ok (Some q) → l < library_count pairs p
  below-count p l q is =
      let t = stands_for pairs p l q is in
      subst (λ r. l < option_map_or (λ (x : Loaded). x.header.library_count) (option_map (λ (f : Fragment). f.loader) (result_ok r)) 0) (sym t.read) t.below

module _ (pairs : List Pair) (s : Walked) where
  -- what a ready fragment waits for was taken
  ready-taken : (p l q : ℕ) → is_ready pairs s p ≡ true → WantsFirst pairs p l q → is_marked s q ≡ true
  ready-taken p l q ready w = by (is_marked s q) refl
    where
      none : (o : Option ℕ) → is_none o ≡ true → o ≡ None
      none None is = refl
      none (Some x) is = absurd (cc)

      all : first_among (awaits pairs s p) 0 (library_count pairs p) ≡ None
      all = none (first_among (awaits pairs s p) 0 (library_count pairs p)) ready

      passed : awaits pairs s p l ≡ None
      passed = let under = below-count pairs p l q w.bound in none_among (awaits pairs s p) 0 (library_count pairs p) l all (omega arith) (omega arith)

      by : (m : Bool) → is_marked s q ≡ m → m ≡ true
      by true met = refl
      by false met = absurd (true≢false (awaits-some pairs s p l q false (wanted-before pairs p l q w) met ∙ ap is_some passed))

  -- a fragment that isn't ready waits for one that wasn't taken
  record Waits (p : ℕ) : Type 0 where
    pub entry : ℕ
    pub for : ℕ
    pub wants : WantsFirst pairs p entry for
    pub unmet : is_marked s for ≡ false

  unready-waits : (p : ℕ) → is_ready pairs s p ≡ false → Waits p
  unready-waits p unready = by (first_among (awaits pairs s p) 0 (library_count pairs p)) refl unready
    where
      mark : (l q : ℕ) → before_of pairs p l ≡ Some q → (x : ℕ) (m : Bool) → is_marked s q ≡ m → cond {A = Option ℕ} m None (Some l) ≡ Some x → Waits p
      mark l q before x true met some = absurd (cc)
      mark l q before x false met some = record { entry = l; for = q; wants = before-wanted pairs p l q before; unmet = met }

      entry : (l x : ℕ) (o : Option ℕ) → before_of pairs p l ≡ o → option_and_then (λ q. cond {A = Option ℕ} (is_marked s q) None (Some l)) o ≡ Some x → Waits p
      entry l x None before some = absurd (cc)
      entry l x (Some q) before some = mark l q before x (is_marked s q) refl some

      by : (o : Option ℕ) → first_among (awaits pairs s p) 0 (library_count pairs p) ≡ o → is_none o ≡ false → Waits p
      by None is some = absurd (cc)
      by (Some x) is some =
          let a = some_among (awaits pairs s p) 0 (library_count pairs p) x is in
          entry a.at x (before_of pairs p a.at) refl a.is

  -- the first fragment of an order that wasn't taken and is ready
  record IsPicked (order : List ℕ) (p : ℕ) : Type 0 where
    pub front : List ℕ
    pub rest : List ℕ
    pub place : order ≡ front ++ p ∷ rest
    pub unmet : is_marked s p ≡ false
    pub ready : is_ready pairs s p ≡ true
    pub passed : (q : ℕ) → Contains front q → (is_marked s q ≡ true) ⊎ (is_ready pairs s q ≡ false)

  -- one that is passed by comes before it
  picked-later : (x : ℕ) (order : List ℕ) (p : ℕ) → (is_marked s x ≡ true) ⊎ (is_ready pairs s x ≡ false) → IsPicked order p → IsPicked (x ∷ order) p
  picked-later x order p passed later = record {
    front = x ∷ later.front;
    rest = later.rest;
    place = ap (λ order. x ∷ order) later.place;
    unmet = later.unmet;
    ready = later.ready;
    passed = λ q there. elim (contains_cases x later.front q there) [
      | inl same ↦ (let P : ℕ → Type 0 = λ q. (is_marked s q ≡ true) ⊎ (is_ready pairs s q ≡ false) in subst P same passed)
      | inr after ↦ later.passed q after
    ];
  }

  picked : (order : List ℕ) (p : ℕ) → next_ready pairs s order ≡ Some p → IsPicked order p
  picked [] p is = absurd (cc)
  picked (x ∷ order) p is = by (is_marked s x) refl (is_ready pairs s x) refl is (picked order p)
    where
      here_first : is_marked s x ≡ false → is_ready pairs s x ≡ true → IsPicked (x ∷ order) x
      here_first unmet ready = record { front = []; rest = order; place = refl; unmet = unmet; ready = ready; passed = λ q there. absurd (let h = there.1 in omega arith) }

      by : (m : Bool) → is_marked s x ≡ m → (r : Bool) → is_ready pairs s x ≡ r → cond (not m && r) (Some x) (next_ready pairs s order) ≡ Some p → (next_ready pairs s order ≡ Some p → IsPicked order p) → IsPicked (x ∷ order) p
      by true met r ready is later = picked-later x order p (inl met) (later is)
      by false met true ready is later = (let same : x ≡ p = cc in subst (IsPicked (x ∷ order)) same (here_first met ready))
      by false met false ready is later = picked-later x order p (inr ready) (later is)

  -- none is left, so all were taken
  none-left : (order : List ℕ) → first_left s order ≡ None → (q : ℕ) → Contains order q → is_marked s q ≡ true
  none-left [] none q there = absurd (let h = there.1 in omega arith)
  none-left (x ∷ order) none q there = by (is_marked s x) refl none (none-left order)
    where
      by : (m : Bool) → is_marked s x ≡ m → cond m (first_left s order) (Some x) ≡ None → (first_left s order ≡ None → (q : ℕ) → Contains order q → is_marked s q ≡ true) → is_marked s q ≡ true
      by true met none later = elim (contains_cases x order q there) [
        | inl same ↦ (let P : ℕ → Type 0 = λ q. is_marked s q ≡ true in subst P same met)
        | inr after ↦ later none q after
      ]
      by false met none later = absurd (cc)

module _ (pairs : List Pair) (order : List ℕ) (complete : IsComplete pairs order) where
  -- the fragments that were taken so far
  record IsTaking (s : Walked) : Type 0 where
    pub tidy : IsTidy s
    pub joined : (q : ℕ) → q < length pairs → is_marked s q ≡ true → Contains s.order q
    pub inside : (q : ℕ) → Contains s.order q → Contains order q
    pub next : (k : ℕ) → k < length s.order → IsNext pairs order (take k s.order) (get_or s.order k 0)

  taking-start : IsTaking (unwalked pairs)
  taking-start = record {
    tidy = record { met = λ q there. absurd (let h = there.1 in omega arith); once = λ i j d less below. absurd (omega arith) };
    joined = λ q under met. absurd (true≢false (sym met ∙ get_or-replicate (length pairs) q false true under));
    inside = λ q there. absurd (let h = there.1 in omega arith);
    next = λ k under. absurd (omega arith);
  }

  module _ (s : Walked) (taking : IsTaking s) (p : ℕ) (is : IsPicked pairs s order p) where
    member : Contains order p
    member = subst (λ order. Contains order p) (sym is.place) (Contains-append_right is.front (p ∷ is.rest) p (0, omega arith, refl))

    -- the fragment that is picked is the next
    next-here : IsNext pairs order s.order p
    next-here = record {
      ready = λ l q wants. taking.joined q (stands_for pairs p l q wants.bound).inside (ready-taken pairs s p l q is.ready wants);
      front = is.front;
      rest = is.rest;
      place = is.place;
      first = λ q there ready. (
          let here = subst (λ order. Contains order q) (sym is.place) (Contains-append_left is.front (p ∷ is.rest) q there) in
          elim (is.passed q there) [
            | inl met ↦ taking.joined q (complete.members q here).place met
            | inr unready ↦ (let w = unready-waits pairs s q unready in absurd (true≢false (sym (taking.tidy.met w.for (ready w.entry w.for w.wants)) ∙ w.unmet)))
          ]);
    }

    absent : Contains s.order p → ⊥
    absent there = true≢false (sym (taking.tidy.met p there) ∙ is.unmet)

    next-push : (k : ℕ) → k < length (s.order ++ p ∷ []) → IsNext pairs order (take k (s.order ++ p ∷ [])) (get_or (s.order ++ p ∷ []) k 0)
    next-push k under = elim (eqb_tells k (length s.order)) [
      | inl last ↦ subst (IsNext pairs order (take k (s.order ++ p ∷ []))) (sym (get_or_push s.order p 0 k (sym last.1)))
          (subst (λ before. IsNext pairs order before p) (sym (take_at s.order (p ∷ []) k (sym last.1))) next-here)
      | inr other ↦ (
          let apart = other.1 in
          let long : length (s.order ++ p ∷ []) ≡ length s.order + 1 = length_push s.order p in
          let within : k < length s.order = omega arith in
          subst (IsNext pairs order (take k (s.order ++ p ∷ []))) (sym (get_or_append_left s.order (p ∷ []) 0 k within))
          (subst (λ before. IsNext pairs order before (get_or s.order k 0)) (sym (take-append-le k s.order (p ∷ []) (omega arith))) (taking.next k within)))
    ]

    taking-next : IsTaking (joining p (marking p s))
    taking-next = record {
      tidy = record {
        met = λ q there. elim (Contains-push_cases s.order p q there) [
          | inl before ↦ more pairs s p is.unmet q (taking.tidy.met q before)
          | inr same ↦ (let P : ℕ → Type 0 = λ q. is_marked (marking p s) q ≡ true in subst P same (here pairs s p is.unmet))
        ];
        once = once-push s.order p taking.tidy.once absent;
      };
      joined = λ q under met. elim (met_before pairs s p is.unmet q met) [
        | inl same ↦ subst (Contains (s.order ++ p ∷ [])) (sym same) (Contains-push s.order p)
        | inr before ↦ Contains-append_left s.order (p ∷ []) q (taking.joined q under before)
      ];
      inside = λ q there. elim (Contains-push_cases s.order p q there) [
        | inl before ↦ taking.inside q before
        | inr same ↦ subst (Contains order) same member
      ];
      next = next-push;
    }

  -- when all are taken the order is whole
  taking-whole : (s : Walked) → IsTaking s → first_left s order ≡ None → IsInitOrder pairs order s.order
  taking-whole s taking none = record {
    same = λ p. ((λ there. taking.inside p there), (λ there. taking.joined p (complete.members p there).place (none-left pairs s order none p there)));
    once = taking.tidy.once;
    next = λ before after p is. (
        let k = length before in
        let long = length-append before (p ∷ after) in
        let size = ap length is in
        let under : k < length s.order = omega arith in
        let low : take k s.order ≡ before = ap (take k) is ∙ take_at before (p ∷ after) k refl in
        let at : get_or s.order k 0 ≡ p = ap (λ xs. get_or xs k 0) is ∙ get_or_at before p after 0 k refl in
        subst (IsNext pairs order before) at (subst (λ before. IsNext pairs order before (get_or s.order k 0)) low (taking.next k under)));
  }

  taking-end : (s : Walked) (o : Option ℕ) (init_order : List ℕ) → IsTaking s → first_left s order ≡ o → taken_all pairs s o ≡ Ok init_order → IsInitOrder pairs order init_order
  taking-end s None init_order taking none is = (let same : s.order ≡ init_order = cc in subst (IsInitOrder pairs order) same (taking-whole s taking none))
  taking-end s (Some p) init_order taking none is = absurd (cc)

  taking-all : (n : ℕ) (s : Walked) (init_order : List ℕ) → IsTaking s → take_ready n pairs order s ≡ Ok init_order → IsInitOrder pairs order init_order
  unfolding take_ready
  taking-all zero s init_order taking is = taking-end s (first_left s order) init_order taking refl is
  taking-all (suc n) s init_order taking is = by (next_ready pairs s order) refl is (taking-all n)
    where
      by : (o : Option ℕ) → next_ready pairs s order ≡ o → take_next (take_ready n pairs order) pairs order s o ≡ Ok init_order
          → ((s : Walked) (init_order : List ℕ) → IsTaking s → take_ready n pairs order s ≡ Ok init_order → IsInitOrder pairs order init_order) → IsInitOrder pairs order init_order
      by None next is later = taking-end s (first_left s order) init_order taking refl is
      by (Some p) next is later = later (joining p (marking p s)) init_order (taking-next s taking p (picked pairs s order p next)) is

-- so a closure's initialization order is one of its closure order
pub closed-init : (pairs : List Pair) (root : ℕ) (c : Closed) → closed_of pairs root ≡ Ok c → IsInitOrder pairs c.order c.init_order
unfolding init_order_of
closed-init pairs root c is =
    let complete = closed-complete pairs root c is in
    taking-all pairs c.order complete (length c.order) (unwalked pairs) c.init_order (taking-start pairs c.order complete) (closed-init_order pairs root c is)
