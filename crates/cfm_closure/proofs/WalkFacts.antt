-- The effect of a walk that isn't refused.
use Rattle.std.proofs.Common.{◌≡◌, ◌≢◌, ℕ, zero, suc, ◌+◌, ◌<◌, ◌≤◌, ◌⊎◌, Bool, true, false, List, [], ◌∷◌, ◌++◌, length, Option, None, Some, Ok, refl, sym, ◌∙◌, subst, get_or, inl, inr, true≢false, arith, Contains}
use Rattle.std.specs.Prelude.{Result, AllPairs}
use Rattle.std.proofs.lemmas.Bool.Decides.{eqb_tells}
use Rattle.std.proofs.lemmas.List.{get_or-set_same, get_or-set_other, get_or_append_left, get_or_push, length-set, length_push}
use Rattle.std.proofs.lemmas.List.Elements.{Contains-append_left, Contains-get_or, Contains-push, Contains-push_cases}
use Rattle.cfm_store.specs.Stores.{Pair}
use Rattle.pef_words.specs.Results.{◌>>=◌}
use Rattle.cfm_closure.specs.Faults.{BindRefusal}
use Rattle.cfm_closure.specs.Fragments.{fragment_of}
use Rattle.cfm_closure.specs.Libraries.{bound_to}
use Rattle.cfm_closure.specs.Walk.{Walked, is_marked, joining, left, marking, walk, walk_at, walk_to, walks_from}
use Rattle.cfm_closure.specs.Kept.Walks.{IsBound, IsDone, IsTidy, Reaches}
use Rattle.cfm_closure.proofs.WalkRules.{came, left-marking, none_left, unmarked_inside, walk-fewer, walk_to-fewer}

module _ (pairs : List Pair) where
  -- done fragments stay done if more are visited
  IsBound-later : (m m' : List Bool) (p l : ℕ) → ((q : ℕ) → get_or m q true ≡ true → get_or m' q true ≡ true) → IsBound pairs m p l → IsBound pairs m' p l
  IsBound-later m m' p l marks is = record { bound = is.bound; is = is.is; met = λ q b. marks q (is.met q b) }

  IsDone-later : (m m' : List Bool) (p : ℕ) → ((q : ℕ) → get_or m q true ≡ true → get_or m' q true ≡ true) → IsDone pairs m p → IsDone pairs m' p
  IsDone-later m m' p marks is = record { fragment = is.fragment; read = is.read; libraries = λ l under. IsBound-later m m' p l marks (is.libraries l under) }

  -- no step
  pub Reaches-same : (s : Walked) → Reaches pairs s s
  Reaches-same s = record {
    size = refl;
    marks = λ q met. met;
    joins = λ q met. inl met;
    kept = λ q there. there;
    fresh = λ q there. inl there;
    done = λ q there. inl there;
    tidy = λ tidy. tidy;
    count = omega arith;
  }

  -- one step and another
  pub Reaches-then : (s t u : Walked) → Reaches pairs s t → Reaches pairs t u → Reaches pairs s u
  Reaches-then s t u a b = record {
    size = b.size ∙ a.size;
    marks = λ q met. b.marks q (a.marks q met);
    joins = λ q met. elim (b.joins q met) [
      | inl before ↦ elim (a.joins q before) [ inl first ↦ inl first | inr joined ↦ inr (b.kept q joined) ]
      | inr joined ↦ inr joined
    ];
    kept = λ q there. b.kept q (a.kept q there);
    fresh = λ q there. elim (b.fresh q there) [
      | inl before ↦ a.fresh q before
      | inr unmet ↦ inr (was_unmet q unmet)
    ];
    done = λ q there. elim (b.done q there) [
      | inl before ↦ elim (a.done q before) [ inl first ↦ inl first | inr done ↦ inr (IsDone-later t.marked u.marked q b.marks done) ]
      | inr done ↦ inr done
    ];
    tidy = λ tidy. b.tidy (a.tidy tidy);
    count = let x = a.count in let y = b.count in omega arith;
  }
    where
      was_unmet : (q : ℕ) → is_marked t q ≡ false → is_marked s q ≡ false
      was_unmet q unmet = by (is_marked s q) refl
        where
          by : (m : Bool) → is_marked s q ≡ m → m ≡ false
          by true met = absurd (true≢false (sym (a.marks q met) ∙ unmet))
          by false met = refl

-- each two elements of a list differ, if they did before and the last one is new
pub once-push : (xs : List ℕ) (y : ℕ) → AllPairs (λ p q. p ≢ q) xs → (Contains xs y → ⊥) → AllPairs (λ p q. p ≢ q) (xs ++ y ∷ [])
once-push xs y once absent i j d less below same =
    let long : length (xs ++ y ∷ []) ≡ length xs + 1 = length_push xs y in
    let inside : i < length xs = omega arith in
    let left = get_or_append_left xs (y ∷ []) d i inside in
    elim (eqb_tells j (length xs)) [
      | inl last ↦ (let right = get_or_push xs y d j (sym last.1) in
          absent (subst (Contains xs) (sym left ∙ same ∙ right) (Contains-get_or xs i d inside)))
      | inr other ↦ (let apart = other.1 in let within : j < length xs = omega arith in
          once i j d less within (sym left ∙ same ∙ get_or_append_left xs (y ∷ []) d j within))
    ]

module _ (pairs : List Pair) (s : Walked) (p : ℕ) (unmet : is_marked s p ≡ false) where
  inside : p < length s.marked
  inside = unmarked_inside s p unmet

  pub here : is_marked (marking p s) p ≡ true
  here = get_or-set_same s.marked p true true inside

  -- a mark changes only that fragment
  elsewhere : (q : ℕ) → q ≢ p → is_marked (marking p s) q ≡ is_marked s q
  elsewhere q other = get_or-set_other s.marked p q true true other

  pub more : (q : ℕ) → is_marked s q ≡ true → is_marked (marking p s) q ≡ true
  more q met = elim (eqb_tells q p) [
    | inl same ↦ (let P : ℕ → Type 0 = λ q. is_marked (marking p s) q ≡ true in subst P (sym same.1) here)
    | inr other ↦ elsewhere q other.1 ∙ met
  ]

  unmet_before : (q : ℕ) → is_marked (marking p s) q ≡ false → is_marked s q ≡ false
  unmet_before q none = elim (eqb_tells q p) [
    | inl same ↦ (let P : ℕ → Type 0 = λ q. is_marked s q ≡ false in subst P (sym same.1) unmet)
    | inr other ↦ sym (elsewhere q other.1) ∙ none
  ]

  pub met_before : (q : ℕ) → is_marked (marking p s) q ≡ true → (q ≡ p) ⊎ (is_marked s q ≡ true)
  met_before q met = elim (eqb_tells q p) [
    | inl same ↦ inl same.1
    | inr other ↦ inr (sym (elsewhere q other.1) ∙ met)
  ]

  -- a fragment is visited, walks lead to its libraries, and it joins the order
  pub Reaches-joining : (u : Walked) → Reaches pairs (marking p s) u → IsDone pairs u.marked p → Reaches pairs s (joining p u)
  Reaches-joining u inner done = record {
    size = inner.size ∙ length-set s.marked p true;
    marks = λ q met. inner.marks q (more q met);
    joins = λ q met. elim (inner.joins q met) [
      | inl before ↦ elim (met_before q before) [
        | inl same ↦ inr (subst (Contains (u.order ++ p ∷ [])) (sym same) (Contains-push u.order p))
        | inr first ↦ inl first
      ]
      | inr joined ↦ inr (Contains-append_left u.order (p ∷ []) q joined)
    ];
    kept = λ q there. Contains-append_left u.order (p ∷ []) q (inner.kept q there);
    fresh = λ q there. elim (Contains-push_cases u.order p q there) [
      | inl before ↦ elim (inner.fresh q before) [ inl first ↦ inl first | inr none ↦ inr (unmet_before q none) ]
      | inr same ↦ inr (let P : ℕ → Type 0 = λ q. is_marked s q ≡ false in subst P same unmet)
    ];
    done = λ q there. elim (Contains-push_cases u.order p q there) [
      | inl before ↦ inner.done q before
      | inr same ↦ inr (subst (IsDone pairs u.marked) same done)
    ];
    tidy = λ tidy. (let later = inner.tidy (tidied tidy) in record {
      met = λ q there. elim (Contains-push_cases u.order p q there) [
        | inl before ↦ later.met q before
        | inr same ↦ (let P : ℕ → Type 0 = λ q. is_marked u q ≡ true in subst P same (inner.marks p here))
      ];
      once = once-push u.order p later.once (absent tidy);
    });
    count = let long : length (u.order ++ p ∷ []) ≡ length u.order + 1 = length_push u.order p in let fewer = inner.count in let one = left-marking s p unmet in omega arith;
  }
    where
      tidied : IsTidy s → IsTidy (marking p s)
      tidied tidy = record { met = λ q there. more q (tidy.met q there); once = tidy.once }

      absent : IsTidy s → Contains u.order p → ⊥
      absent tidy there = elim (inner.fresh p there) [
        | inl first ↦ true≢false (sym (tidy.met p first) ∙ unmet)
        | inr none ↦ true≢false (sym here ∙ none)
      ]

-- the effect of a walk that isn't refused: it continues, and it has visited its fragment
pub record Walks (pairs : List Pair) (p : ℕ) (s t : Walked) : Type 0 where
  pub reaches : Reaches pairs s t
  pub met : is_marked t p ≡ true

module _ (k : ℕ) (v : ℕ → Walked → Result Walked BindRefusal) (pairs : List Pair) (p : ℕ)
    (fewer : (q : ℕ) (s t : Walked) → v q s ≡ Ok t → left t ≤ left s)
    (walks : (q : ℕ) (s t : Walked) → left s ≤ k → v q s ≡ Ok t → Walks pairs q s t) where
  -- the effect of the walks to some libraries
  record WalksFrom (l n : ℕ) (s t : Walked) : Type 0 where
    pub reaches : Reaches pairs s t
    pub libraries : (i : ℕ) → l ≤ i → i < l + n → IsBound pairs t.marked p i

  -- the first of them, which was or wasn't absent
  first_bound : (q : Option ℕ) (l : ℕ) (s t : Walked) → left s ≤ k → bound_to pairs p l ≡ Ok q → walk_to v q s ≡ Ok t → Reaches pairs s t × IsBound pairs t.marked p l
  first_bound None l s t few is led =
      let same : s ≡ t = cc in
      (subst (Reaches pairs s) same (Reaches-same pairs s), record { bound = None; is = is; met = λ r b. absurd (cc) })
  first_bound (Some q) l s t few is led =
      let w = walks q s t few led in
      (w.reaches, record { bound = Some q; is = is; met = λ r b. (let P : ℕ → Type 0 = λ r. is_marked t r ≡ true in subst P (cc) w.met) })

  walks_from-does : (l n : ℕ) (s t : Walked) → left s ≤ k → walks_from v pairs p l n s ≡ Ok t → WalksFrom l n s t
  walks_from-does l zero s t few is =
      let same : s ≡ t = cc in
      record { reaches = subst (Reaches pairs s) same (Reaches-same pairs s); libraries = λ i low high. absurd (omega arith) }
  walks_from-does l (suc n) s t few is =
      let a = came (bound_to pairs p l) (λ q. walk_to v q s >>= walks_from v pairs p (l + 1) n) t is in
      let b = came (walk_to v a.value s) (walks_from v pairs p (l + 1) n) t a.leads in
      let first = first_bound a.value l s b.value few a.is b.is in
      let low : left b.value ≤ left s = walk_to-fewer v fewer pairs p a.value s b.value b.is in
      let rest = walks_from-does (l + 1) n b.value t (omega arith) b.leads in
      record {
        reaches = Reaches-then pairs s b.value t first.0 rest.reaches;
        libraries = λ i from under. elim (eqb_tells l i) [
          | inl same ↦ subst (IsBound pairs t.marked p) same.1 (IsBound-later pairs b.value.marked t.marked p l rest.reaches.marks first.1)
          | inr other ↦ (let apart = other.1 in rest.libraries i (omega arith) (omega arith))
        ];
      }

pub walk-does : (n : ℕ) (pairs : List Pair) (p : ℕ) (s t : Walked) → left s ≤ n → walk n pairs p s ≡ Ok t → Walks pairs p s t
unfolding walk
walk-does zero pairs p s t few is =
    let same : s ≡ t = cc in
    subst (Walks pairs p s) same (record { reaches = Reaches-same pairs s; met = none_left s p (omega arith) })
walk-does (suc n) pairs p s t few is = by (is_marked s p) refl is (λ q s t few is. walk-does n pairs q s t few is)
  where
    by : (m : Bool) → is_marked s p ≡ m → walk_at (walk n pairs) pairs p s m ≡ Ok t → ((q : ℕ) (s t : Walked) → left s ≤ n → walk n pairs q s ≡ Ok t → Walks pairs q s t) → Walks pairs p s t
    by true met is deeper = let same : s ≡ t = cc in subst (Walks pairs p s) same (record { reaches = Reaches-same pairs s; met = met })
    by false unmet is deeper =
        let a = came (fragment_of pairs p) (λ f. walks_from (walk n pairs) pairs p 0 f.loader.header.library_count (marking p s) >>= (λ s. Ok (joining p s))) t is in
        let b = came (walks_from (walk n pairs) pairs p 0 a.value.loader.header.library_count (marking p s)) (λ s. Ok (joining p s)) t a.leads in
        let one = left-marking s p unmet in
        let inner = walks_from-does n (walk n pairs) pairs p (λ q s t. walk-fewer n pairs q s t) deeper 0 a.value.loader.header.library_count (marking p s) b.value (omega arith) b.is in
        let done : IsDone pairs b.value.marked p = record { fragment = a.value; read = a.is; libraries = λ l under. inner.libraries l (omega arith) (omega arith) } in
        let same : joining p b.value ≡ t = cc in
        subst (Walks pairs p s) same (record {
          reaches = Reaches-joining pairs s p unmet b.value inner.reaches done;
          met = inner.reaches.marks p (here pairs s p unmet);
        })
