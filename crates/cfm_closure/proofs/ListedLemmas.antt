-- What is missing are entries that no fragment serves, each name once.
use Rattle.std.proofs.Common.{◌≡◌, ◌≢◌, ℕ, zero, suc, ◌+◌, Bool, true, false, true≢false, cond, not, ◌&&◌, List, [], ◌∷◌, length, Option, None, Some, Ok, refl, sym, ◌∙◌, subst}
use Rattle.std.specs.Prelude.{Result}
use Rattle.std.specs.List.{AllByRecursion}
use Rattle.std.specs.Str.{bytes_eq}
use Rattle.std.proofs.lemmas.Slice.Eq.{bytes_eq-Decides}
use Rattle.pef_loader.specs.Library.{Library}
use Rattle.pef_loader.specs.Loader.{library_of}
use Rattle.pef_words.proofs.Laws.Lists.{all-weaker}
use Rattle.cfm_store.specs.Stores.{Pair}
use Rattle.cfm_closure.specs.Faults.{BindRefusal}
use Rattle.cfm_closure.specs.Fragments.{Fragment, fragment_of}
use Rattle.cfm_closure.specs.declared.missing.Served.{Served}
use Rattle.cfm_closure.specs.declared.missing.Served.TheVariants.{By, ByNone}
use Rattle.cfm_closure.specs.Missing.{Missing, Sought, missing_entry, missing_of, noted, noting, search, search_at, search_by, search_entry, search_from, serving, stricter, unsought, visiting, was_visited}
use Rattle.cfm_closure.specs.Promises.{AreApart, IsEntryTo, IsLacking, IsSought}
use Rattle.cfm_closure.proofs.WalkRules.{came, same_ok}

-- what holds of all that is noted and of a new entry holds of all that is noted then
noted-all : (P : Missing → Type 0) (ms : List Missing) (m : Missing) → AllByRecursion P ms → P m → AllByRecursion P (noted ms m)
unfolding noted
noted-all P [] m all new = (new, tt)
noted-all P (x ∷ ms) m all new = by (bytes_eq m.name x.name) (noted-all P ms m all.1 new)
  where
    one : (replaces : Bool) → P (cond replaces m x)
    one true = new
    one false = all.0

    by : (here : Bool) → AllByRecursion P (noted ms m) → AllByRecursion P (cond here (stricter x m ∷ ms) (x ∷ noted ms m))
    by true rest = (one (x.weak && not m.weak), all.1)
    by false rest = (all.0, rest)

-- the stricter of two entries with one name has it
pub stricter-name : (x m : Missing) → m.name ≡ x.name → (stricter x m).name ≡ x.name
stricter-name x m same = by (x.weak && not m.weak)
  where
    by : (replaces : Bool) → (cond replaces m x).name ≡ x.name
    by true = same
    by false = refl

-- each name is once then, too
noted-apart : (ms : List Missing) (m : Missing) → AreApart ms → AreApart (noted ms m)
unfolding noted
noted-apart [] m apart = (tt, tt)
noted-apart (x ∷ ms) m apart = by (bytes_eq m.name x.name) refl (noted-apart ms m apart.1)
  where
    by : (here : Bool) → bytes_eq m.name x.name ≡ here → AreApart (noted ms m) → AreApart (cond here (stricter x m ∷ ms) (x ∷ noted ms m))
    by true is rest =
        let same = stricter-name x m ((bytes_eq-Decides m.name x.name).0 is) in
        (all-weaker (λ y. x.name ≢ y.name) (λ y. (stricter x m).name ≢ y.name) ms (λ y other is. other (sym same ∙ is)) apart.0, apart.1)
    by false is rest = (noted-all (λ y. x.name ≢ y.name) ms m apart.0 (λ same. true≢false (sym ((bytes_eq-Decides m.name x.name).1 (sym same)) ∙ is)), rest)

module _ (pairs : List Pair) (root : ℕ) where
  -- all that is noted are entries that no fragment serves, each name once
  pub record AreListed (ms : List Missing) : Type 0 where
    pub lacking : AllByRecursion (IsLacking pairs root) ms
    pub apart : AreApart ms

  noted-listed : (ms : List Missing) (m : Missing) → AreListed ms → IsLacking pairs root m → AreListed (noted ms m)
  noted-listed ms m are new = record { lacking = noted-all (IsLacking pairs root) ms m are.lacking new; apart = noted-apart ms m are.apart }

  module _ (f : ℕ → Sought → Result Sought BindRefusal) (keeps : (q : ℕ) (s t : Sought) → IsSought pairs root q → f q s ≡ Ok t → AreListed s.missing → AreListed t.missing) (p : ℕ) (sought : IsSought pairs root p) (fragment : Fragment) (read : fragment_of pairs p ≡ Ok fragment) where
    served-listed : (l : ℕ) (library : Library) (s t : Sought) (served : Served) → library_of fragment.loader l ≡ Some library → serving pairs library ≡ Ok served → search_by f p library s served ≡ Ok t → AreListed s.missing → AreListed t.missing
    served-listed l library s t (By q) there serves leads are =
        let entry : IsEntryTo pairs p q = record { fragment = fragment; read = read; index = l; library = library; entry = there; serves = serves } in
        keeps q s t (suc sought.0, (p, sought.1, entry)) leads are
    served-listed l library s t (ByNone found) there serves leads are =
        let same : noting (missing_entry p library found) s ≡ t = same_ok (Ok (noting (missing_entry p library found) s)) _ _ refl leads in
        let new : IsLacking pairs root (missing_entry p library found) = record { sought = sought; fragment = fragment; read = read; index = l; library = library; entry = there; none = serves; is = refl } in
        subst (λ (t : Sought). AreListed t.missing) same (noted-listed s.missing (missing_entry p library found) are new)

    entry-listed : (l : ℕ) (s t : Sought) (o : Option Library) → library_of fragment.loader l ≡ o → search_entry f pairs p o s ≡ Ok t → AreListed s.missing → AreListed t.missing
    entry-listed l s t None there is are = subst (λ (t : Sought). AreListed t.missing) (same_ok (Ok s) _ _ refl is) are
    entry-listed l s t (Some library) there is are = let a = came (serving pairs library) (search_by f p library s) t is in served-listed l library s t a.value there a.is a.leads are

    entries-listed : (l n : ℕ) (s t : Sought) → search_from f pairs p fragment.loader l n s ≡ Ok t → AreListed s.missing → AreListed t.missing
    entries-listed l zero s t is are = subst (λ (t : Sought). AreListed t.missing) (same_ok (Ok s) _ _ refl is) are
    entries-listed l (suc n) s t is are =
        let a = came (search_entry f pairs p (library_of fragment.loader l) s) (search_from f pairs p fragment.loader (l + 1) n) t is in
        entries-listed (l + 1) n a.value t a.leads (entry-listed l s a.value (library_of fragment.loader l) refl a.is are)

  search-listed : (n p : ℕ) (s t : Sought) → IsSought pairs root p → search n pairs p s ≡ Ok t → AreListed s.missing → AreListed t.missing
  unfolding search
  search-listed zero p s t sought is are = subst (λ (t : Sought). AreListed t.missing) (same_ok (Ok s) _ _ refl is) are
  search-listed (suc n) p s t sought is are = by (was_visited s p) is (search-listed n)
    where
      by : (m : Bool) → search_at (search n pairs) pairs p s m ≡ Ok t → ((q : ℕ) (s t : Sought) → IsSought pairs root q → search n pairs q s ≡ Ok t → AreListed s.missing → AreListed t.missing) → AreListed t.missing
      by true is deeper = subst (λ (t : Sought). AreListed t.missing) (same_ok (Ok s) _ _ refl is) are
      by false is deeper =
          let a = came (fragment_of pairs p) (λ f. search_from (search n pairs) pairs p f.loader 0 f.loader.header.library_count (visiting p s)) t is in
          entries-listed (search n pairs) deeper p sought a.value a.is 0 a.value.loader.header.library_count (visiting p s) t a.leads are

  missing-listed : (ms : List Missing) → missing_of pairs root ≡ Ok ms → AreListed ms
  unfolding missing_of
  missing-listed ms is =
      let a = came (search (length pairs) pairs root (unsought pairs)) (λ s. Ok s.missing) ms is in
      let same : a.value.missing ≡ ms = same_ok (Ok a.value.missing) _ _ refl a.leads in
      subst AreListed same (search-listed (length pairs) root (unsought pairs) a.value (0, refl) a.is (record { lacking = tt; apart = tt }))

pub missing-lacking : (pairs : List Pair) (root : ℕ) (ms : List Missing) → missing_of pairs root ≡ Ok ms → AllByRecursion (IsLacking pairs root) ms
missing-lacking pairs root ms is = (missing-listed pairs root ms is).lacking

pub missing-apart : (pairs : List Pair) (root : ℕ) (ms : List Missing) → missing_of pairs root ≡ Ok ms → AreApart ms
missing-apart pairs root ms is = (missing-listed pairs root ms is).apart
