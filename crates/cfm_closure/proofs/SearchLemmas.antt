-- The path of visits has the effect of the recursion.
use Rattle.std.proofs.Common.{◌≡◌, ℕ, zero, suc, ◌+◌, ◌-◌, ◌<◌, ◌≤◌, true, false, List, [], ◌∷◌, ◌++◌, length, Some, Ok, Err, refl, sym, ap, ◌∙◌, arith}
use Rattle.std.specs.Prelude.{Result}
use Rattle.std.proofs.Math.Nat.{lt_of_not-le}
use Rattle.std.proofs.lemmas.List.{length_push}
use Rattle.pef_loader.specs.Library.{Library}
use Rattle.pef_loader.specs.Loader.{library_of}
use Rattle.pef_loader.specs.Views.{loaded}
use Rattle.pef_words.specs.Results.{◌>>=◌}
use Rattle.cfm_store.specs.Stores.{Pair}
use Rattle.cfm_closure.specs.declared.fault.BindFault.{BindFault}
use Rattle.cfm_closure.specs.declared.search.Visit.{Visit}
use Rattle.cfm_closure.specs.Faults.{Answers, BindRefusal}
use Rattle.cfm_closure.specs.Fragments.{Fragment, fragment_of}
use Rattle.cfm_closure.specs.Kept.Searches.{Leads, rest_of_visit, rest_of_visits, search_and_rest, unvisited, visit_and_rest}
use Rattle.cfm_closure.specs.Missing.{Missing, Sought, missing_of, search, search_at, search_entry, search_from, unsought, visiting, was_visited}
use Rattle.cfm_closure.proofs.PathLemmas.{Fails-also, then_assoc, then_ok, then_same}
use Rattle.cfm_closure.proofs.WalkRules.{left-marking}

module _ (pairs : List Pair) where
  -- a fragment that was visited is passed by
  pub search-met : (n p : ℕ) (s : Sought) → was_visited s p ≡ true → search n pairs p s ≡ Ok s
  unfolding search
  search-met zero p s met = refl
  search-met (suc n) p s met = ap (search_at (search n pairs) pairs p s) met

  module _ (n p : ℕ) (s : Sought) (unmet : was_visited s p ≡ false) where
    search-new : search (suc n) pairs p s ≡ search_at (search n pairs) pairs p s false
    unfolding search
    search-new = ap (search_at (search n pairs) pairs p s) unmet

    -- any other one is read
    pub search-refused : (r : BindRefusal) → fragment_of pairs p ≡ Err r → search (suc n) pairs p s ≡ Err r
    search-refused r is = search-new ∙ ap (λ f. f >>= (λ f. search_from (search n pairs) pairs p f.loader 0 f.loader.header.library_count (visiting p s))) is

    -- .. and its entries come next
    pub search-unmet : (f : Fragment) → fragment_of pairs p ≡ Ok f → search (suc n) pairs p s ≡ search_from (search n pairs) pairs p f.loader 0 (f.loader.header.library_count - 0) (visiting p s)
    search-unmet f is =
        search-new
        ∙ ap (λ f. f >>= (λ f. search_from (search n pairs) pairs p f.loader 0 f.loader.header.library_count (visiting p s))) is
        ∙ ap (λ count. search_from (search n pairs) pairs p f.loader 0 count (visiting p s)) (omega arith)

  -- the rest of a visit begins with its next entry
  pub visit-next : (n : ℕ) (v : Visit) (s : Sought) → v.next < (loaded v.loader).header.library_count
      → rest_of_visit n pairs v s ≡ (search_entry (search n pairs) pairs v.p (library_of (loaded v.loader) v.next) s >>= rest_of_visit n pairs (record v { next = v.next + 1 }))
  visit-next n v s under =
      let more : (loaded v.loader).header.library_count - v.next ≡ suc ((loaded v.loader).header.library_count - (v.next + 1)) = omega arith in
      ap (λ count. search_from (search n pairs) pairs v.p (loaded v.loader) v.next count s) more

  -- past the last entry nothing is left
  pub visit-done : (n : ℕ) (v : Visit) (s : Sought) → (loaded v.loader).header.library_count ≤ v.next → rest_of_visit n pairs v s ≡ Ok s
  visit-done n v s past =
      let none : (loaded v.loader).header.library_count - v.next ≡ 0 = omega arith in
      ap (λ count. search_from (search n pairs) pairs v.p (loaded v.loader) v.next count s) none

  -- a visit more: it comes first
  pub visits-push : (n k : ℕ) (path : List Visit) (v : Visit) (s : Sought) → n ≡ length path + suc k → rest_of_visits n pairs (path ++ v ∷ []) s ≡ (rest_of_visit k pairs v s >>= rest_of_visits n pairs path)
  visits-push zero k path v s deep = absurd (omega arith)
  visits-push (suc n) k [] v s deep =
      let same : n ≡ k = omega arith in
      ap (λ m. rest_of_visit m pairs v s) same ∙ sym (then_ok (rest_of_visit k pairs v s))
  visits-push (suc n) k (u ∷ path) v s deep =
      ap (λ r. r >>= rest_of_visit n pairs u) (visits-push n k path v s (let d = deep in omega arith))
      ∙ then_assoc (rest_of_visit k pairs v s) (rest_of_visits n pairs path) (rest_of_visit n pairs u)

  -- if a visit continues with the walk to a fragment, so does the path
  pub visit-and-rest : (path : List Visit) (v w : Visit) (q : ℕ) (s t : Sought) → length path + 1 ≤ length pairs
      → rest_of_visit (length pairs - (length path + 1)) pairs v s ≡ (search (length pairs - (length path + 1)) pairs q t >>= rest_of_visit (length pairs - (length path + 1)) pairs w)
      → visit_and_rest (length pairs) pairs v path s ≡ search_and_rest (length pairs) pairs q (path ++ w ∷ []) t
  visit-and-rest path v w q s t room is =
      let k = length pairs - (length path + 1) in
      let long : length (path ++ w ∷ []) ≡ length path + 1 = length_push path w in
      ap (λ r. r >>= rest_of_visits (length pairs) pairs path) is
      ∙ then_assoc (search k pairs q t) (rest_of_visit k pairs w) (rest_of_visits (length pairs) pairs path)
      ∙ then_same (search k pairs q t) _ _ (λ s. sym (visits-push (length pairs) k path w s (omega arith)))
      ∙ ap (λ m. search (length pairs - m) pairs q t >>= rest_of_visits (length pairs) pairs (path ++ w ∷ [])) (sym long)

module _ (pairs : List Pair) (path : List Visit) (s : Sought) (p : ℕ) (unmet : was_visited s p ≡ false) (room : length path + unvisited s.marked ≤ length pairs) where
  -- a fragment that wasn't visited has room on the path
  deeper : length pairs - length path ≡ suc (length pairs - (length path + 1))
  deeper = let one = left-marking (record { marked = s.marked; order = [] }) p unmet in omega (arith, one, room)

  -- if it is refused, so is the walk
  pub enter-refused : (r : BindRefusal) → fragment_of pairs p ≡ Err r → search_and_rest (length pairs) pairs p path s ≡ Err r
  enter-refused r is =
      ap (λ n. search n pairs p s >>= rest_of_visits (length pairs) pairs path) deeper
      ∙ ap (λ t. t >>= rest_of_visits (length pairs) pairs path) (search-refused pairs (length pairs - (length path + 1)) p s unmet r is)

  -- .. and its visit comes first
  pub enter-unmet : (v : Visit) (f : Fragment) → v.p ≡ p → v.next ≡ 0 → f.loader ≡ loaded v.loader → fragment_of pairs p ≡ Ok f → search_and_rest (length pairs) pairs p path s ≡ rest_of_visits (length pairs) pairs (path ++ v ∷ []) (visiting p s)
  enter-unmet v f here first loader is =
      let k = length pairs - (length path + 1) in
      let deep : length pairs ≡ length path + suc k = let d = deeper in let one = left-marking (record { marked = s.marked; order = [] }) p unmet in omega (arith, one, room) in
      ap (λ n. search n pairs p s >>= rest_of_visits (length pairs) pairs path) deeper
      ∙ ap (λ t. t >>= rest_of_visits (length pairs) pairs path)
      (search-unmet pairs k p s unmet f is
      ∙ ap (λ l. search_from (search k pairs) pairs p l 0 (l.header.library_count - 0) (visiting p s)) loader
      ∙ ap (λ next. search_from (search k pairs) pairs p (loaded v.loader) next ((loaded v.loader).header.library_count - next) (visiting p s)) (sym first)
      ∙ ap (λ q. search_from (search k pairs) pairs q (loaded v.loader) v.next ((loaded v.loader).header.library_count - v.next) (visiting p s)) (sym here))
      ∙ sym (visits-push pairs (length pairs) k path v (visiting p s) deep)

pub past-end : (a b : ℕ) → (a < b → ⊥) → b ≤ a
past-end a b none = let h : b < a + 1 = lt_of_not-le (λ under. none (omega (arith, under))) in omega (arith, h)

module _ (pairs : List Pair) where
  -- the rest of a visit begins with the entry that was read
  pub visit-entry : (n : ℕ) (v : Visit) (s : Sought) (library : Library) → v.next < (loaded v.loader).header.library_count → Some library ≡ library_of (loaded v.loader) v.next
      → rest_of_visit n pairs v s ≡ (search_entry (search n pairs) pairs v.p (Some library) s >>= rest_of_visit n pairs (record v { next = v.next + 1 }))
  visit-entry n v s library under is =
      visit-next pairs n v s under
      ∙ ap (λ l. search_entry (search n pairs) pairs v.p l s >>= rest_of_visit n pairs (record v { next = v.next + 1 })) (sym is)

  -- the last visit of a path comes first
  pub visits-last : (path : List Visit) (v : Visit) (all : List Visit) (marked : ℕ) (s : Sought) → all ≡ path ++ v ∷ [] → length all + marked ≤ length pairs → rest_of_visits (length pairs) pairs all s ≡ visit_and_rest (length pairs) pairs v path s
  visits-last path v all marked s is room =
      let long : length all ≡ length path + 1 = ap length is ∙ length_push path v in
      ap (λ path. rest_of_visits (length pairs) pairs path s) is
      ∙ visits-push pairs (length pairs) (length pairs - (length path + 1)) path v s (omega (arith, long, room))

  -- the libraries that are missing are those of the walk from the root, with no fragment visited and none on the path
  pub missing_of-start : (root : ℕ) (path : List Visit) (s : Sought) → path ≡ [] → s ≡ unsought pairs → missing_of pairs root ≡ (search_and_rest (length pairs) pairs root path s >>= (λ s. Ok s.missing))
  unfolding missing_of
  missing_of-start root path s empty start =
      let whole : length pairs - 0 ≡ length pairs = omega arith in
      sym (ap (λ path. search_and_rest (length pairs) pairs root path s >>= (λ s. Ok s.missing)) empty
      ∙ ap (λ s. search_and_rest (length pairs) pairs root [] s >>= (λ s. Ok s.missing)) start
      ∙ ap (λ n. (search n pairs root (unsought pairs) >>= (λ s. Ok s)) >>= (λ s. Ok s.missing)) whole
      ∙ ap (λ r. r >>= (λ s. Ok s.missing)) (then_ok (search (length pairs) pairs root (unsought pairs))))

-- what leads on from an equal search leads on
pub Leads-from : {A : Type 0} (r : Result A BindFault) (on : A → Result Sought BindRefusal) (x y : Result Sought BindRefusal) → x ≡ y → Leads r on y → Leads r on x
Leads-from (Ok a) on x y same leads = same ∙ leads
Leads-from (Err e) on x y same leads = Fails-also e y x (λ r refused. same ∙ refused) leads

-- a search that leads to its end answers with what is noted then
pub Leads-answers : (r : Result (Unit {0}) BindFault) (x : Result Sought BindRefusal) (t : Sought) (y : Result (List Missing) BindRefusal) → Leads r (λ done. Ok t) x → y ≡ (x >>= (λ s. Ok s.missing)) → Answers (λ done. t.missing) r y
Leads-answers (Ok done) x t y leads is = is ∙ ap (λ r. r >>= (λ s. Ok s.missing)) leads
Leads-answers (Err e) x t y leads is = Fails-also e x y (λ r refused. is ∙ ap (λ r. r >>= (λ s. Ok s.missing)) refused) leads
