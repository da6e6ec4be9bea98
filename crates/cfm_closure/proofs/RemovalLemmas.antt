-- What is kept of a store stays right when a fragment is removed.
use Rattle.std.proofs.Common.{◌≡◌, ◌≢◌, ℕ, zero, suc, ◌+◌, ◌<◌, ◌≤◌, ◌==◌, Bool, true, false, not, cond, List, [], ◌∷◌, length, Option, None, Some, Ok, refl, sym, ap, subst, ◌∙◌, get_or, inl, inr, arith, Contains}
use Rattle.std.specs.Prelude.{◌⊎◌, IsSome, filter, option_map}
use Rattle.std.specs.Option.{option_and_then}
use Rattle.std.proofs.lemmas.Bool.Decides.{eqb_tells}
use Rattle.std.proofs.lemmas.List.Kept.{AllPairs-filter}
use Rattle.pef_loader.specs.Library.{Library}
use Rattle.pef_loader.specs.Loader.{Loaded, library_of}
use Rattle.cfm_store.specs.Additions.{without_pair}
use Rattle.cfm_store.specs.Stores.{Pair, place_of}
use Rattle.cfm_store.proofs.Laws.{removed-longer}
use Rattle.cfm_closure.specs.Additions.{NamesLibrary}
use Rattle.cfm_closure.specs.declared.fragment.FragmentView.{FragmentView}
use Rattle.cfm_closure.specs.Fragments.{Fragment, fragment_of, loader_at}
use Rattle.cfm_closure.specs.Libraries.{bound_to}
use Rattle.cfm_closure.specs.Kept.Caches.{AreCached, AreKeptRows, AreOfKept, IsOfKept}
use Rattle.cfm_closure.specs.Kept.Removal.{AreApart, AreUnmarked, IsLeft, IsWithout, is_marked, left_at}
use Rattle.cfm_closure.specs.Kept.Targets.{Row}
use Rattle.cfm_closure.specs.Kept.Views.{AreRead, fragment_at}
use Rattle.cfm_closure.specs.Orders.{IsComplete}
use Rattle.cfm_closure.specs.Views.{fragment_seen}
use Rattle.cfm_closure.proofs.BoundLemmas.{stands_for}
use Rattle.cfm_closure.proofs.CacheLemmas.{cache_now, cache_without, kept-none, rows-none}
use Rattle.cfm_closure.proofs.HopFacts.{loader_at-is}
use Rattle.cfm_closure.proofs.SameLemmas.{AreSame}
use Rattle.cfm_closure.proofs.SameTargetLemmas.{contains_first, contains_later}
use Rattle.cfm_closure.proofs.StoreLemmas.{fragment-removed, removed-same}

-- an element of a list is its first, or one of the rest
contains_cases : (x : ℕ) (xs : List ℕ) (q : ℕ) → Contains (x ∷ xs) q → (x ≡ q) ⊎ Contains xs q
contains_cases x xs q (zero, under, is) = inl is
contains_cases x xs q (suc k, under, is) = inr (k, omega arith, is)

eqb_not : (p q : ℕ) → (p == q) ≡ false → p ≡ q → ⊥
eqb_not p q not_equal same = elim (eqb_tells p q) [
  | inl equal ↦ (let e : true ≡ false = sym equal.0 ∙ not_equal in cc)
  | inr other ↦ other.1 same
]

-- a value that is left
left-some : {T : Type 0} (b : Bool) (o : Option T) → IsSome (cond b None o) → (b ≡ false) × IsSome o
left-some true o some = absurd (cc)
left-some false o some = (refl, some)

left-is : {T : Type 0} (b : Bool) (o : Option T) (x : T) → cond b None o ≡ Some x → (b ≡ false) × (o ≡ Some x)
left-is true o x is = absurd (cc)
left-is false o x is = (refl, is)

module _ (marks : List Bool) where
  -- the fragments of an order that aren't marked
  abbrev pub unmarked : List ℕ → List ℕ
  unmarked order = filter (λ q. not (is_marked marks q)) order

  unmarked-has : (order : List ℕ) (q : ℕ) → Contains order q → is_marked marks q ≡ false → Contains (unmarked order) q
  unmarked-has [] q (k, under, is) free = absurd (omega arith)
  unmarked-has (x ∷ xs) q there free = by (is_marked marks x) refl (contains_cases x xs q there) (λ later. unmarked-has xs q later free)
    where
      by : (b : Bool) → is_marked marks x ≡ b → (x ≡ q) ⊎ Contains xs q → (Contains xs q → Contains (unmarked xs) q) → Contains (cond (not b) (x ∷ unmarked xs) (unmarked xs)) q
      by true is here deeper = elim here [
        | inl same ↦ absurd (let e : true ≡ false = sym is ∙ ap (is_marked marks) same ∙ free in cc)
        | inr later ↦ deeper later
      ]
      by false is here deeper = elim here [
        | inl same ↦ subst (λ (q : ℕ). Contains (x ∷ unmarked xs) q) same (contains_first x (unmarked xs))
        | inr later ↦ contains_later x (unmarked xs) q (deeper later)
      ]

  unmarked-from : (order : List ℕ) (q : ℕ) → Contains (unmarked order) q → Contains order q × (is_marked marks q ≡ false)
  unmarked-from [] q (k, under, is) = absurd (omega arith)
  unmarked-from (x ∷ xs) q there = by (is_marked marks x) refl there (unmarked-from xs q)
    where
      by : (b : Bool) → is_marked marks x ≡ b → Contains (cond (not b) (x ∷ unmarked xs) (unmarked xs)) q → (Contains (unmarked xs) q → Contains xs q × (is_marked marks q ≡ false)) → Contains (x ∷ xs) q × (is_marked marks q ≡ false)
      by true is there deeper = let d = deeper there in (contains_later x xs q d.0, d.1)
      by false is there deeper = elim (contains_cases x (unmarked xs) q there) [
        | inl same ↦ (subst (λ (q : ℕ). Contains (x ∷ xs) q) same (contains_first x xs), sym (ap (is_marked marks) same) ∙ is)
        | inr later ↦ (let d = deeper later in (contains_later x xs q d.0, d.1))
      ]

  unmarked-few : (order : List ℕ) → length (unmarked order) ≤ length order
  unmarked-few [] = omega arith
  unmarked-few (x ∷ xs) = by (is_marked marks x) (unmarked-few xs)
    where
      by : (b : Bool) → length (unmarked xs) ≤ length xs → length (cond (not b) (x ∷ unmarked xs) (unmarked xs)) ≤ suc (length xs)
      by true few = omega arith
      by false few = omega arith

  -- a complete order whose fragments are kept is complete without those that are marked
  module _ (pairs : List Pair) (rows : List (Option Row)) (apart : AreApart pairs rows marks) where
    unmarked-complete : (order : List ℕ) → IsComplete pairs order → ((q : ℕ) → Contains order q → IsSome (get_or rows q None)) → IsComplete pairs (unmarked order)
    unmarked-complete order complete all = record {
      members = λ p there.
          let w = unmarked-from order p there in
          let m = complete.members p w.0 in
          record {
            place = m.place;
            fragment = m.fragment;
            read = m.read;
            libraries = λ l below.
                let h = m.libraries l below in
                record {
                  bound = h.bound;
                  is = h.is;
                  inside = λ q some.
                      let s = stands_for pairs p l q (h.is ∙ ap Ok some) in
                      let entry = ap (option_and_then (λ (x : Loaded). library_of x l)) (loader_at-is pairs p s.fragment s.read) ∙ s.entry in
                      unmarked-has order q (h.inside q some) (apart p (all p w.0) w.1 l s.library entry q s.named);
                };
          };
      once = AllPairs-filter (λ p q. p ≢ q) (λ q. not (is_marked marks q)) order complete.once;
      count = let few = unmarked-few order in let count = complete.count in omega arith;
    }

    module _ (left : List (Option Row)) (is : (p : ℕ) → get_or left p None ≡ left_at (is_marked marks) rows p) where
      was-kept : (p : ℕ) → IsSome (get_or left p None) → (is_marked marks p ≡ false) × IsSome (get_or rows p None)
      was-kept p some = left-some (is_marked marks p) (get_or rows p None) (subst IsSome (is p) some)

      left-rows : AreKeptRows pairs rows → AreKeptRows pairs left
      left-rows are p row here = are p row (left-is (is_marked marks p) (get_or rows p None) row (sym (is p) ∙ here)).1

      left-kept : AreOfKept pairs rows → AreOfKept pairs left
      left-kept are p some =
          let was = was-kept p some in
          let o = are p was.1 in
          record {
            order = unmarked o.order;
            complete = unmarked-complete o.order o.complete o.all;
            member = unmarked-has o.order p o.member was.0;
            all = λ q there.
                let w = unmarked-from o.order q there in
                subst IsSome (sym (is q ∙ ap (λ b. cond b None (get_or rows q None)) w.1)) (o.all q w.0);
          }

      -- in the store without a marked fragment it is complete, too
      module _ (name : List ℕ) (place : ℕ) (first : place_of pairs name ≡ Some place) (here : is_marked marks place ≡ true) where
        left-same : (p : ℕ) (o : IsOfKept pairs left p) → AreSame pairs (without_pair pairs place) o.order
        left-same p o =
            removed-same pairs name place first o.order o.complete
            (λ there. let e : true ≡ false = sym here ∙ (was-kept place (o.all place there)).0 in cc)
            (λ (names : NamesLibrary pairs o.order name).
            let was = was-kept names.fragment (o.all names.fragment names.member) in
            let entry = ap (option_and_then (λ (x : Loaded). library_of x names.index)) names.read ∙ names.entry in
            let free = apart names.fragment was.1 was.0 names.index names.library entry place (ap (place_of pairs) names.named ∙ first) in
            let e : true ≡ false = sym here ∙ free in
            cc)

-- what is left of the fragments that were read
module _ (pairs : List Pair) (place : ℕ) (views left : List (Option FragmentView)) (read : AreRead pairs views) (is : (p : ℕ) → get_or left p None ≡ left_at (λ p. p == place) views p) where
  left-fragment : (p : ℕ) (f : Fragment) → fragment_at left p ≡ Some f → ((p == place) ≡ false) × (fragment_at views p ≡ Some f)
  left-fragment p f here = by (p == place) (sym (ap (option_map fragment_seen) (is p)) ∙ here)
    where
      by : (b : Bool) → option_map fragment_seen (cond b None (get_or views p None)) ≡ Some f → (b ≡ false) × (fragment_at views p ≡ Some f)
      by true here = absurd (cc)
      by false here = (refl, here)

  pub left-read : AreRead pairs left
  left-read p f here = read p f (left-fragment p f here).1

  pub left-read-now : AreRead (without_pair pairs place) left
  left-read-now p f here =
      let l = left-fragment p f here in
      fragment-removed pairs place p (λ same. eqb_not p place l.0 same) ∙ read p f l.1

module _ (pairs : List Pair) (place : ℕ) (views views' : List (Option FragmentView)) (rows rows' : List (Option Row)) (is : AreCached pairs views rows) (seen : IsWithout (λ p. p == place) views views') (left : IsLeft pairs place rows rows') where
  -- so it is a cache of the store
  pub cache_left : AreCached pairs views' rows'
  cache_left = record {
    few = let few = is.few in let size = seen.size in omega arith;
    read = left-read pairs place views views' is.read seen.is;
    few_rows = elim left [
      | inl none ↦ (let e = ap length none in omega arith)
      | inr kept ↦ (let few = is.few_rows in let size = kept.without.size in omega arith)
    ];
    right = elim left [
      | inl none ↦ rows-none pairs rows' none
      | inr kept ↦ left-rows kept.marks pairs rows kept.apart rows' kept.without.is is.right
    ];
    closures = elim left [
      | inl none ↦ kept-none pairs rows' none
      | inr kept ↦ left-kept kept.marks pairs rows kept.apart rows' kept.without.is is.closures
    ];
  }

  -- and of the store without the fragment
  pub cache_removed : (name : List ℕ) → place_of pairs name ≡ Some place → AreCached (without_pair pairs place) views' rows'
  cache_removed name first = elim left [
    | inl none ↦ cache_without pairs views' rows' cache_left (without_pair pairs place) (removed-longer pairs name place first) (left-read-now pairs place views views' is.read seen.is) rows' none
    | inr kept ↦ cache_now pairs views' rows' cache_left (without_pair pairs place) (removed-longer pairs name place first) (left-read-now pairs place views views' is.read seen.is)
        (left-same kept.marks pairs rows kept.apart rows' kept.without.is name place first kept.here)
  ]
