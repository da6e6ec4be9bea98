-- The search visits every fragment to which served entries lead, and notes every entry of these that no fragment serves.
use Rattle.std.proofs.Common.{◌≡◌, ℕ, zero, suc, ◌+◌, ◌<◌, ◌≤◌, ◌⊎◌, inl, inr, Bool, true, false, true≢false, cond, not, List, [], ◌∷◌, length, replicate, Option, None, Some, Ok, refl, sym, ap, ◌∙◌, subst, set, get_or, arith}
use Rattle.std.specs.Prelude.{Result, nat_lt}
use Rattle.std.specs.Str.{bytes_eq}
use Rattle.std.proofs.lemmas.Bool.{ltb-true}
use Rattle.std.proofs.lemmas.Bool.Decides.{eqb_tells}
use Rattle.std.proofs.lemmas.List.{get_or-replicate, length-replicate}
use Rattle.std.proofs.lemmas.List.Sums.{count_by-le-length}
use Rattle.std.proofs.lemmas.Slice.Eq.{bytes_eq-Decides}
use Rattle.pef_format.specs.Symbols.{options_of}
use Rattle.pef_loader.specs.Library.{Library, library_in}
use Rattle.pef_loader.specs.Loader.{Loaded, library_of}
use Rattle.cfm_store.specs.Stores.{Pair, place_of}
use Rattle.cfm_store.proofs.Laws.{place_of-below}
use Rattle.cfm_closure.specs.Faults.{BindRefusal}
use Rattle.cfm_closure.specs.Fragments.{Fragment, fragment_of}
use Rattle.cfm_closure.specs.Libraries.{fit_with}
use Rattle.cfm_closure.specs.declared.missing.Served.{Served}
use Rattle.cfm_closure.specs.declared.missing.Served.TheVariants.{By, ByNone}
use Rattle.cfm_closure.specs.declared.versions.Fit.{Fit}
use Rattle.cfm_closure.specs.declared.versions.Fit.TheVariants.{Fits, TooOld, TooNew}
use Rattle.cfm_closure.specs.Kept.Searches.{unvisited}
use Rattle.cfm_closure.specs.Missing.{Missing, Sought, missing_entry, missing_of, noted, noting, search, search_at, search_by, search_entry, search_from, serving, serving_at, serving_by, stricter, unsought, visiting, was_visited}
use Rattle.cfm_closure.specs.Promises.{IsListed, IsSought, LacksOnly, LeadsIn}
use Rattle.cfm_closure.proofs.LackLemmas.{stricter-weak}
use Rattle.cfm_closure.proofs.ListedLemmas.{stricter-name}
use Rattle.cfm_closure.proofs.WalkRules.{came, left-marking, none_left, same_ok}

-- what is noted stays noted
listed-kept : (ms : List Missing) (m : Missing) (name : List ℕ) (weak : Bool) → IsListed name weak ms → IsListed name weak (noted ms m)
unfolding noted
listed-kept [] m name weak listed = absurd listed
listed-kept (x ∷ ms) m name weak listed = by (bytes_eq m.name x.name) refl listed (listed-kept ms m name weak)
  where
    by : (here : Bool) → bytes_eq m.name x.name ≡ here → IsListed name weak (x ∷ ms) → (IsListed name weak ms → IsListed name weak (noted ms m)) → IsListed name weak (cond here (stricter x m ∷ ms) (x ∷ noted ms m))
    by true is (inl own) later = inl (stricter-name x m ((bytes_eq-Decides m.name x.name).0 is) ∙ own.0, λ w. own.1 (stricter-weak x m w).0)
    by true is (inr rest) later = inr rest
    by false is (inl own) later = inl own
    by false is (inr rest) later = inr (later rest)

-- .. and so is a new entry
listed-new : (ms : List Missing) (m : Missing) → IsListed m.name m.weak (noted ms m)
unfolding noted
listed-new [] m = inl (refl, λ w. w)
listed-new (x ∷ ms) m = by (bytes_eq m.name x.name) refl (listed-new ms m)
  where
    by : (here : Bool) → bytes_eq m.name x.name ≡ here → IsListed m.name m.weak (noted ms m) → IsListed m.name m.weak (cond here (stricter x m ∷ ms) (x ∷ noted ms m))
    by true is later = (let same = (bytes_eq-Decides m.name x.name).0 is in inl (stricter-name x m same ∙ sym same, λ w. (stricter-weak x m w).1))
    by false is later = inr later

-- a mark stays, is there, and is the only new one
mark-kept : (ms : List Bool) (p q : ℕ) → get_or ms q true ≡ true → get_or (set ms p true) q true ≡ true
mark-kept [] p q is = is
mark-kept (m ∷ ms) zero zero is = refl
mark-kept (m ∷ ms) zero (suc q) is = is
mark-kept (m ∷ ms) (suc p) zero is = is
mark-kept (m ∷ ms) (suc p) (suc q) is = mark-kept ms p q is

mark-own : (ms : List Bool) (p : ℕ) → get_or (set ms p true) p true ≡ true
mark-own [] p = refl
mark-own (m ∷ ms) zero = refl
mark-own (m ∷ ms) (suc p) = mark-own ms p

mark-only : (ms : List Bool) (p q : ℕ) → get_or (set ms p true) q true ≡ true → (get_or ms q true ≡ true) ⊎ (q ≡ p)
mark-only [] p q is = inl is
mark-only (m ∷ ms) zero zero is = inr refl
mark-only (m ∷ ms) zero (suc q) is = inl is
mark-only (m ∷ ms) (suc p) zero is = inl is
mark-only (m ∷ ms) (suc p) (suc q) is = elim (mark-only ms p q is) [ inl was ↦ inl was | inr same ↦ inr (ap suc same) ]

-- an entry is below the count
met-if : {A : Type 0} (b : Bool) (o : Option A) (x : A) → cond b o None ≡ Some x → b ≡ true
met-if true o x is = refl
met-if false o x is = absurd (cc)

entry-below : (l : Loaded) (i : ℕ) (x : Library) → library_of l i ≡ Some x → i < l.header.library_count
unfolding library_of library_in
entry-below l i x is = ltb-true i l.header.library_count (met-if (nat_lt i l.header.library_count) _ x is)

module _ (pairs : List Pair) where
  -- a fragment that serves an entry is one of the store
  served-below : (library : Library) (q : ℕ) → serving pairs library ≡ Ok (By q) → q < length pairs
  unfolding serving
  served-below library q is = at (place_of pairs library.name) refl is
    where
      fits : (g : Fragment) (p : ℕ) (fit : Fit) → serving_by fit g p ≡ By q → p ≡ q
      fits g p Fits is = cc
      fits g p TooOld is = absurd (cc)
      fits g p TooNew is = absurd (cc)

      at : (o : Option ℕ) → place_of pairs library.name ≡ o → serving_at pairs library o ≡ Ok (By q) → q < length pairs
      at None there is = absurd (cc)
      at (Some p) there is =
          let a = came (fragment_of pairs p) (λ g. Ok (serving_by (fit_with library g) g p)) (By q) is in
          let same = fits a.value p (fit_with library a.value) (same_ok {A = Served} (Ok (serving_by (fit_with library a.value) a.value p)) _ _ refl a.leads) in
          subst (λ (p : ℕ). p < length pairs) same (place_of-below pairs library.name p there)

  -- a served entry leads to a fragment that was visited, and any other is noted
  abbrev IsDone : Sought → Library → Served → Type 0
  IsDone t library (By q) = was_visited t q ≡ true
  IsDone t library (ByNone found) = IsListed library.name (options_of library.fields.options).weak t.missing

  record IsSettled (t : Sought) (library : Library) : Type 0 where
    pub served : Served
    pub is : serving pairs library ≡ Ok served
    pub done : IsDone t library served

  -- a fragment was read, and all its entries are settled
  record IsRead (t : Sought) (p : ℕ) : Type 0 where
    pub fragment : Fragment
    pub read : fragment_of pairs p ≡ Ok fragment
    pub settled : (l : ℕ) (library : Library) → library_of fragment.loader l ≡ Some library → IsSettled t library

  -- what was visited and noted stays so
  record Grows (s t : Sought) : Type 0 where
    pub kept : (q : ℕ) → was_visited s q ≡ true → was_visited t q ≡ true
    pub listed : (name : List ℕ) (weak : Bool) → IsListed name weak s.missing → IsListed name weak t.missing
    pub fewer : unvisited t.marked ≤ unvisited s.marked

  settled-grows : (s t : Sought) (library : Library) → Grows s t → IsSettled s library → IsSettled t library
  settled-grows s t library grows settled = record { served = settled.served; is = settled.is; done = by settled.served settled.done }
    where
      by : (served : Served) → IsDone s library served → IsDone t library served
      by (By q) done = grows.kept q done
      by (ByNone found) done = grows.listed library.name (options_of library.fields.options).weak done

  -- from one state to another: what was visited in between was read, with all its entries settled
  record Visits (s t : Sought) : Type 0 where
    pub grows : Grows s t
    pub read : (q : ℕ) → was_visited t q ≡ true → (was_visited s q ≡ true) ⊎ IsRead t q

  grows-none : (s t : Sought) → s ≡ t → Grows s t
  grows-none s t same = subst (Grows s) same (record { kept = λ q is. is; listed = λ name weak is. is; fewer = omega arith })

  visits-none : (s t : Sought) → s ≡ t → Visits s t
  visits-none s t same = subst (Visits s) same (record { grows = grows-none s s refl; read = λ q is. inl is })

  grows-then : (s t u : Sought) → Grows s t → Grows t u → Grows s u
  grows-then s t u first rest = record {
    kept = λ q is. rest.kept q (first.kept q is);
    listed = λ name weak is. rest.listed name weak (first.listed name weak is);
    fewer = (let a = first.fewer in let b = rest.fewer in omega arith);
  }

  visits-then : (s t u : Sought) → Visits s t → Visits t u → Visits s u
  visits-then s t u first rest = record { grows = grows-then s t u first.grows rest.grows; read = λ q is. by q (rest.read q is) }
    where
      later : (q : ℕ) → IsRead t q → IsRead u q
      later q was = record { fragment = was.fragment; read = was.read; settled = λ l library there. settled-grows t u library rest.grows (was.settled l library there) }

      before : (q : ℕ) → (was_visited s q ≡ true) ⊎ IsRead t q → (was_visited s q ≡ true) ⊎ IsRead u q
      before q (inl was) = inl was
      before q (inr was) = inr (later q was)

      by : (q : ℕ) → (was_visited t q ≡ true) ⊎ IsRead u q → (was_visited s q ≡ true) ⊎ IsRead u q
      by q (inl was) = before q (first.read q was)
      by q (inr was) = inr was

  -- a search that visits a fragment
  module _ (n : ℕ) (f : ℕ → Sought → Result Sought BindRefusal) (visits : (q : ℕ) (s t : Sought) → unvisited s.marked ≤ n → f q s ≡ Ok t → Visits s t × (was_visited t q ≡ true)) (p : ℕ) where
    entry-visits : (library : Library) (s t : Sought) → unvisited s.marked ≤ n → search_entry f pairs p (Some library) s ≡ Ok t → Visits s t × IsSettled t library
    entry-visits library s t few is =
        let a = came (serving pairs library) (search_by f p library s) t is in
        by a.value a.is a.leads
      where
        by : (served : Served) → serving pairs library ≡ Ok served → search_by f p library s served ≡ Ok t → Visits s t × IsSettled t library
        by (By q) serves leads = (let both = visits q s t few leads in (both.0, record { served = By q; is = serves; done = both.1 }))
        by (ByNone found) serves leads =
            let m = missing_entry p library found in
            let same : noting m s ≡ t = same_ok (Ok (noting m s)) _ _ refl leads in
            let grows : Grows s (noting m s) = record { kept = λ q is. is; listed = listed-kept s.missing m; fewer = omega arith } in
            let settled : IsSettled (noting m s) library = record { served = ByNone found; is = serves; done = listed-new s.missing m } in (
              subst (Visits s) same (record { grows = grows; read = λ q is. inl is }),
              subst (λ (t : Sought). IsSettled t library) same settled,
            )

    -- the entries from one on
    abbrev AreSettled : Loaded → ℕ → ℕ → Sought → Type 0
    AreSettled loader l k t = (i : ℕ) (library : Library) → l ≤ i → i < l + k → library_of loader i ≡ Some library → IsSettled t library

    entries-visit : (loader : Loaded) (l k : ℕ) (s t : Sought) → unvisited s.marked ≤ n → search_from f pairs p loader l k s ≡ Ok t → Visits s t × AreSettled loader l k t
    entries-visit loader l zero s t few is = (visits-none s t (same_ok (Ok s) _ _ refl is), λ i library low high there. absurd (omega (arith, low, high)))
    entries-visit loader l (suc k) s t few is =
        let a = came (search_entry f pairs p (library_of loader l) s) (search_from f pairs p loader (l + 1) k) t is in
        let first = one a.value (library_of loader l) refl a.is in
        let fewer = first.0.grows.fewer in
        let rest = entries-visit loader (l + 1) k a.value t (omega (arith, few, fewer)) a.leads in
        let here : (library : Library) → library_of loader l ≡ Some library → IsSettled t library = λ library there. settled-grows a.value t library rest.0.grows (first.1 library there) in (
          visits-then s a.value t first.0 rest.0,
          λ i library low high there. elim (eqb_tells i l) [
            | inl same ↦ here library (ap (library_of loader) (sym same.1) ∙ there)
            | inr apart ↦ rest.1 i library (let other = apart.1 in omega (arith, low, other)) (omega (arith, high)) there
          ],
        )
      where
        one : (u : Sought) (o : Option Library) → library_of loader l ≡ o → search_entry f pairs p o s ≡ Ok u → Visits s u × ((library : Library) → library_of loader l ≡ Some library → IsSettled u library)
        one u None there is = (visits-none s u (same_ok (Ok s) _ _ refl is), λ library has. absurd (let none : None ≡ Some library = sym there ∙ has in cc))
        one u (Some x) there is =
            let both = entry-visits x s u few is in (
              both.0,
              λ library has. (let same : Some x ≡ Some library = sym there ∙ has in let own : x ≡ library = cc in subst (IsSettled u) own both.1),
            )

  search-visits : (n p : ℕ) (s t : Sought) → unvisited s.marked ≤ n → search n pairs p s ≡ Ok t → Visits s t × (was_visited t p ≡ true)
  unfolding search
  search-visits zero p s t few is =
      let same : s ≡ t = same_ok (Ok s) _ _ refl is in
      let all : was_visited s p ≡ true = none_left (record { marked = s.marked; order = [] }) p (omega (arith, few)) in
      (visits-none s t same, subst (λ (t : Sought). was_visited t p ≡ true) same all)
  search-visits (suc n) p s t few is = by (was_visited s p) refl is (search-visits n)
    where
      by : (m : Bool) → was_visited s p ≡ m → search_at (search n pairs) pairs p s m ≡ Ok t
          → ((q : ℕ) (s t : Sought) → unvisited s.marked ≤ n → search n pairs q s ≡ Ok t → Visits s t × (was_visited t q ≡ true)) → Visits s t × (was_visited t p ≡ true)
      by true met is deeper = (let same : s ≡ t = same_ok (Ok s) _ _ refl is in (visits-none s t same, subst (λ (t : Sought). was_visited t p ≡ true) same met))
      by false met is deeper =
          let a = came (fragment_of pairs p) (λ f. search_from (search n pairs) pairs p f.loader 0 f.loader.header.library_count (visiting p s)) t is in
          let left = left-marking (record { marked = s.marked; order = [] }) p met in
          let inner = entries-visit n (search n pairs) deeper p a.value.loader 0 a.value.loader.header.library_count (visiting p s) t (omega (arith, left, few)) a.leads in
          let marks : Grows s (visiting p s) = record { kept = λ q is. mark-kept s.marked p q is; listed = λ name weak is. is; fewer = omega (arith, left) } in
          let own : IsRead t p = record {
            fragment = a.value;
            read = a.is;
            settled = λ l library there. inner.1 l library (omega arith) (let low = entry-below a.value.loader l library there in omega (arith, low)) there;
          } in (
            record { grows = grows-then s (visiting p s) t marks inner.0.grows; read = λ q visited. after q own (inner.0.read q visited) },
            inner.0.grows.kept p (mark-own s.marked p),
          )
        where
          only : (q : ℕ) → IsRead t p → (was_visited s q ≡ true) ⊎ (q ≡ p) → (was_visited s q ≡ true) ⊎ IsRead t q
          only q own (inl was) = inl was
          only q own (inr same) = inr (subst (IsRead t) (sym same) own)

          after : (q : ℕ) → IsRead t p → (was_visited (visiting p s) q ≡ true) ⊎ IsRead t q → (was_visited s q ≡ true) ⊎ IsRead t q
          after q own (inl was) = only q own (mark-only s.marked p q was)
          after q own (inr read) = inr read

  -- after the search from a root each fragment to which entries lead was visited
  module _ (root : ℕ) (inside : root < length pairs) (t : Sought) (visits : Visits (unsought pairs) t) (visited : was_visited t root ≡ true) where
    read-of : (q : ℕ) → q < length pairs → was_visited t q ≡ true → IsRead t q
    read-of q below is = by (visits.read q is)
      where
        by : (was_visited (unsought pairs) q ≡ true) ⊎ IsRead t q → IsRead t q
        by (inl was) = absurd (true≢false (sym was ∙ get_or-replicate (length pairs) q false true below))
        by (inr read) = read

    led : (n p : ℕ) → LeadsIn pairs root n p → (p < length pairs) × (was_visited t p ≡ true)
    led zero p same = (subst (λ (p : ℕ). p < length pairs) (sym same) inside, subst (λ (p : ℕ). was_visited t p ≡ true) (sym same) visited)
    led (suc n) p leads =
        let from = led n leads.0 leads.1 in
        let read = read-of leads.0 from.0 from.1 in
        let by = leads.2 in
        let same : read.fragment ≡ by.fragment = same_ok (fragment_of pairs leads.0) _ _ read.read by.read in
        let settled = read.settled by.index by.library (ap (λ (f : Fragment). library_of f.loader by.index) same ∙ by.entry) in
        let served : settled.served ≡ By p = same_ok (serving pairs by.library) _ _ settled.is by.serves in
        (served-below by.library p by.serves, subst (IsDone t by.library) served settled.done)

    lacks-only : (p : ℕ) → IsSought pairs root p → LacksOnly pairs t.missing p
    lacks-only p sought =
        let from = led sought.0 p sought.1 in
        let read = read-of p from.0 from.1 in
        record {
          fragment = read.fragment;
          read = read.read;
          listed = λ l library found there none. (
              let settled = read.settled l library there in
              let served : settled.served ≡ ByNone found = same_ok (serving pairs library) _ _ settled.is none in
              subst (IsDone t library) served settled.done
              );
        }

-- all that is missing is listed
pub missing-complete : (pairs : List Pair) (root : ℕ) (ms : List Missing) → root < length pairs → missing_of pairs root ≡ Ok ms → (p : ℕ) → IsSought pairs root p → LacksOnly pairs ms p
unfolding missing_of
missing-complete pairs root ms inside is p sought =
    let a = came (search (length pairs) pairs root (unsought pairs)) (λ s. Ok s.missing) ms is in
    let same : a.value.missing ≡ ms = same_ok (Ok a.value.missing) _ _ refl a.leads in
    let few : unvisited (replicate (length pairs) false) ≤ length pairs = (let all = length-replicate (length pairs) false in let low = count_by-le-length not (replicate (length pairs) false) in omega (arith, all, low)) in
    let both = search-visits pairs (length pairs) root (unsought pairs) a.value few a.is in
    subst (λ (ms : List Missing). LacksOnly pairs ms p) same (lacks-only pairs root inside a.value both.0 both.1 p sought)
