-- If only weak libraries are missing, the walk of the closure isn't refused: it visits what the search visits.
use Rattle.std.proofs.Common.{◌≡◌, ℕ, zero, suc, ◌+◌, Bool, true, false, cond, not, ◌&&◌, List, [], ◌∷◌, length, Option, None, Some, Ok, Err, refl, sym, ap, ◌∙◌, subst, set, get_or}
use Rattle.std.specs.Prelude.{Result}
use Rattle.std.specs.Option.{option_map_or}
use Rattle.std.specs.Str.{bytes_eq}
use Rattle.pef_format.specs.Symbols.{options_of}
use Rattle.pef_loader.specs.Library.{Library}
use Rattle.pef_loader.specs.Loader.{library_of}
use Rattle.pef_words.specs.Results.{◌>>=◌}
use Rattle.cfm_store.specs.Stores.{Pair, place_of}
use Rattle.cfm_closure.specs.Faults.{BindRefusal}
use Rattle.cfm_closure.specs.Fragments.{Fragment, fragment_of}
use Rattle.cfm_closure.specs.Libraries.{absent_or, bound, bound_at, bound_by, bound_to, fit_with}
use Rattle.cfm_closure.specs.declared.missing.Served.{Served}
use Rattle.cfm_closure.specs.declared.missing.Served.TheVariants.{By, ByNone}
use Rattle.cfm_closure.specs.declared.versions.Fit.{Fit}
use Rattle.cfm_closure.specs.declared.versions.Fit.TheVariants.{Fits, TooOld, TooNew}
use Rattle.cfm_closure.specs.declared.versions.Implementation.{Implementation}
use Rattle.cfm_closure.specs.Missing.{Missing, Sought, missing_entry, missing_of, noted, noting, search, search_at, search_by, search_entry, search_from, serving, serving_at, serving_by, stricter, unsought, visiting, was_visited}
use Rattle.cfm_closure.specs.Promises.{AreWeak}
use Rattle.cfm_closure.specs.Walk.{Walked, is_marked, joining, marking, order_of, unwalked, walk, walk_at, walk_to, walks_from}
use Rattle.cfm_closure.proofs.PathLemmas.{bound_to-is, then_assoc}
use Rattle.cfm_closure.proofs.WalkRules.{came, same_ok}

-- of two entries the stricter one is weak only if both are
pub stricter-weak : (x m : Missing) → (stricter x m).weak ≡ true → (x.weak ≡ true) × (m.weak ≡ true)
stricter-weak x m weak = by x.weak m.weak refl refl weak
  where
    by : (a b : Bool) → x.weak ≡ a → m.weak ≡ b → (cond (a && not b) m x).weak ≡ true → (x.weak ≡ true) × (m.weak ≡ true)
    by true true is is' weak = (is, is')
    by true false is is' weak = absurd (cc)
    by false b is is' weak = absurd (cc)

-- so if all that is noted is weak, all was before, and so is the new entry
noted-weak : (ms : List Missing) (m : Missing) → AreWeak (noted ms m) → AreWeak ms × (m.weak ≡ true)
unfolding noted
noted-weak [] m weak = (tt, weak.0)
noted-weak (x ∷ ms) m weak = by (bytes_eq m.name x.name) weak (noted-weak ms m)
  where
    by : (here : Bool) → AreWeak (cond here (stricter x m ∷ ms) (x ∷ noted ms m)) → (AreWeak (noted ms m) → AreWeak ms × (m.weak ≡ true)) → AreWeak (x ∷ ms) × (m.weak ≡ true)
    by true weak later = let both = stricter-weak x m weak.0 in ((both.0, weak.1), both.1)
    by false weak later = let rest = later weak.1 in ((weak.0, rest.0), rest.1)

module _ (pairs : List Pair) (f : Fragment) (l : ℕ) (library : Library) where
  -- an entry that a fragment serves is bound to it, and one that none serves is absent if it is weak
  bound-served : (q : ℕ) → serving pairs library ≡ Ok (By q) → bound pairs f l library ≡ Ok (Some q)
  unfolding serving bound
  bound-served q is = at (place_of pairs library.name) is
    where
      fits : (g : Fragment) (p : ℕ) (fit : Fit) → serving_by fit g p ≡ By q → bound_by fit f l library g p ≡ Ok (Some q)
      fits g p Fits is = let same : p ≡ q = cc in ap (λ p. Ok (Some p)) same
      fits g p TooOld is = absurd (cc)
      fits g p TooNew is = absurd (cc)

      read : (p : ℕ) (r : Result Fragment BindRefusal) → (r >>= (λ g. Ok (serving_by (fit_with library g) g p))) ≡ Ok (By q) → (r >>= (λ g. bound_by (fit_with library g) f l library g p)) ≡ Ok (Some q)
      read p (Ok g) is = fits g p (fit_with library g) (same_ok {A = Served} (Ok (serving_by (fit_with library g) g p)) _ _ refl is)
      read p (Err e) is = absurd (cc)

      at : (o : Option ℕ) → serving_at pairs library o ≡ Ok (By q) → bound_at pairs f l library o ≡ Ok (Some q)
      at None is = absurd (cc)
      at (Some p) is = read p (fragment_of pairs p) is

  bound-missing : (found : Option Implementation) → serving pairs library ≡ Ok (ByNone found) → (options_of library.fields.options).weak ≡ true → bound pairs f l library ≡ Ok None
  unfolding serving bound
  bound-missing found is weak = at (place_of pairs library.name) is
    where
      absent : (r : BindRefusal) → absent_or (options_of library.fields.options).weak r ≡ Ok None
      absent r = ap (λ w. absent_or w r) weak

      fits : (g : Fragment) (p : ℕ) (fit : Fit) → serving_by fit g p ≡ ByNone found → bound_by fit f l library g p ≡ Ok None
      fits g p Fits is = absurd (cc)
      fits g p TooOld is = absent _
      fits g p TooNew is = absent _

      read : (p : ℕ) (r : Result Fragment BindRefusal) → (r >>= (λ g. Ok (serving_by (fit_with library g) g p))) ≡ Ok (ByNone found) → (r >>= (λ g. bound_by (fit_with library g) f l library g p)) ≡ Ok None
      read p (Ok g) is = fits g p (fit_with library g) (same_ok {A = Served} (Ok (serving_by (fit_with library g) g p)) _ _ refl is)
      read p (Err e) is = absurd (cc)

      at : (o : Option ℕ) → serving_at pairs library o ≡ Ok (ByNone found) → bound_at pairs f l library o ≡ Ok None
      at None is = absent _
      at (Some p) is = read p (fragment_of pairs p) is

-- a walk follows a search from one state to another: with the same fragments visited it isn't refused, and visits the same
pub record Follows (s t : Sought) (go : Walked → Result Walked BindRefusal) : Type 0 where
  pub weak : AreWeak s.missing
  pub goes : (w : Walked) → w.marked ≡ s.marked → (v : Walked) × (go w ≡ Ok v) × (v.marked ≡ t.marked)

-- one that does nothing follows a search that visits nothing
follows-none : (s t : Sought) → s ≡ t → AreWeak t.missing → Follows s t (λ w. Ok w)
follows-none s t same weak = record {
  weak = subst (λ (t : Sought). AreWeak t.missing) (sym same) weak;
  goes = λ w are. (w, refl, are ∙ ap (λ (s : Sought). s.marked) same);
}

-- two searches after one another
follows-then : (s t u : Sought) (go on : Walked → Result Walked BindRefusal) → Follows s t go → Follows t u on → Follows s u (λ w. go w >>= on)
follows-then s t u go on first rest = record {
  weak = first.weak;
  goes = λ w are. (let a = first.goes w are in let b = rest.goes a.0 a.2 in (b.0, ap (λ r. r >>= on) a.1 ∙ b.1, b.2));
}

follows-same : (s t : Sought) (go on : Walked → Result Walked BindRefusal) → ((w : Walked) → on w ≡ go w) → Follows s t go → Follows s t on
follows-same s t go on same first = record {
  weak = first.weak;
  goes = λ w are. (let a = first.goes w are in (a.0, same w ∙ a.1, a.2));
}

module _ (pairs : List Pair) (f : ℕ → Sought → Result Sought BindRefusal) (g : ℕ → Walked → Result Walked BindRefusal)
    (follows : (q : ℕ) (s t : Sought) → f q s ≡ Ok t → AreWeak t.missing → Follows s t (g q)) (p : ℕ) (fragment : Fragment) (read : fragment_of pairs p ≡ Ok fragment) where
  -- an entry
  entry-follows : (l : ℕ) (s t : Sought) → search_entry f pairs p (library_of fragment.loader l) s ≡ Ok t → AreWeak t.missing → Follows s t (λ w. bound_to pairs p l >>= (λ q. walk_to g q w))
  unfolding bound_to
  entry-follows l s t is weak = by (library_of fragment.loader l) refl is
    where
      none-bound : library_of fragment.loader l ≡ None → bound_to pairs p l ≡ Ok None
      none-bound none = ap (λ r. r >>= (λ f. option_map_or (bound pairs f l) (library_of f.loader l) (Ok None))) read ∙ ap (λ o. option_map_or (bound pairs fragment l) o (Ok None)) none

      served : (library : Library) (served : Served) → library_of fragment.loader l ≡ Some library → serving pairs library ≡ Ok served → search_by f p library s served ≡ Ok t → Follows s t (λ w. bound_to pairs p l >>= (λ q. walk_to g q w))
      served library (By q) there serves leads =
          let is_bound = bound_to-is pairs p l fragment library read there ∙ bound-served pairs fragment l library q serves in
          follows-same s t (g q) _ (λ w. ap (λ r. r >>= (λ q. walk_to g q w)) is_bound) (follows q s t leads weak)
      served library (ByNone found) there serves leads =
          let same : noting (missing_entry p library found) s ≡ t = same_ok (Ok (noting (missing_entry p library found) s)) _ _ refl leads in
          let were = noted-weak s.missing (missing_entry p library found) (subst (λ (t : Sought). AreWeak t.missing) (sym same) weak) in
          let is_bound = bound_to-is pairs p l fragment library read there ∙ bound-missing pairs fragment l library found serves were.1 in
          record {
            weak = were.0;
            goes = λ w are. (w, ap (λ r. r >>= (λ q. walk_to g q w)) is_bound, are ∙ ap (λ (t : Sought). t.marked) same);
          }

      by : (o : Option Library) → library_of fragment.loader l ≡ o → search_entry f pairs p o s ≡ Ok t → Follows s t (λ w. bound_to pairs p l >>= (λ q. walk_to g q w))
      by None there is = follows-same s t (λ w. Ok w) _ (λ w. ap (λ r. r >>= (λ q. walk_to g q w)) (none-bound there)) (follows-none s t (same_ok (Ok s) _ _ refl is) weak)
      by (Some library) there is = let a = came (serving pairs library) (search_by f p library s) t is in served library a.value there a.is a.leads

  -- .. and several
  entries-follow : (l n : ℕ) (s t : Sought) → search_from f pairs p fragment.loader l n s ≡ Ok t → AreWeak t.missing → Follows s t (walks_from g pairs p l n)
  entries-follow l zero s t is weak = follows-none s t (same_ok (Ok s) _ _ refl is) weak
  entries-follow l (suc n) s t is weak =
      let a = came (search_entry f pairs p (library_of fragment.loader l) s) (search_from f pairs p fragment.loader (l + 1) n) t is in
      let rest = entries-follow (l + 1) n a.value t a.leads weak in
      let first = entry-follows l s a.value a.is rest.weak in
      follows-same s t (λ w. (bound_to pairs p l >>= (λ q. walk_to g q w)) >>= walks_from g pairs p (l + 1) n) _
      (λ w. sym (then_assoc (bound_to pairs p l) (λ q. walk_to g q w) (walks_from g pairs p (l + 1) n)))
      (follows-then s a.value t _ _ first rest)

pub search-follows : (n : ℕ) (pairs : List Pair) (p : ℕ) (s t : Sought) → search n pairs p s ≡ Ok t → AreWeak t.missing → Follows s t (walk n pairs p)
unfolding search walk
search-follows zero pairs p s t is weak = follows-none s t (same_ok (Ok s) _ _ refl is) weak
search-follows (suc n) pairs p s t is weak = by (was_visited s p) refl is (search-follows n pairs)
  where
    at : (m : Bool) → was_visited s p ≡ m → (w : Walked) → w.marked ≡ s.marked → walk_at (walk n pairs) pairs p w (is_marked w p) ≡ walk_at (walk n pairs) pairs p w m
    at m met w are = ap (walk_at (walk n pairs) pairs p w) (ap (λ marked. get_or marked p true) are ∙ met)

    by : (m : Bool) → was_visited s p ≡ m → search_at (search n pairs) pairs p s m ≡ Ok t → ((q : ℕ) (s t : Sought) → search n pairs q s ≡ Ok t → AreWeak t.missing → Follows s t (walk n pairs q)) → Follows s t (λ w. walk_at (walk n pairs) pairs p w (is_marked w p))
    by true met is deeper =
        let none = follows-none s t (same_ok (Ok s) _ _ refl is) weak in
        record { weak = none.weak; goes = λ w are. (let a = none.goes w are in (a.0, at true met w are ∙ a.1, a.2)) }
    by false met is deeper =
        let a = came (fragment_of pairs p) (λ f. search_from (search n pairs) pairs p f.loader 0 f.loader.header.library_count (visiting p s)) t is in
        let inner = entries-follow pairs (search n pairs) (walk n pairs) deeper p a.value a.is 0 a.value.loader.header.library_count (visiting p s) t a.leads weak in
        record {
          weak = inner.weak;
          goes = λ w are. (
              let b = inner.goes (marking p w) (ap (λ marked. set marked p true) are) in (
                joining p b.0,
                at false met w are
                    ∙ ap (λ r. r >>= (λ f. walks_from (walk n pairs) pairs p 0 f.loader.header.library_count (marking p w) >>= (λ s. Ok (joining p s)))) a.is
                    ∙ ap (λ r. r >>= (λ s. Ok (joining p s))) b.1,
                b.2,
              )
              );
        }

-- if all that is missing is weak, there is a closure order
pub missing-weak : (pairs : List Pair) (root : ℕ) (ms : List Missing) → missing_of pairs root ≡ Ok ms → AreWeak ms → (order : List ℕ) × (order_of pairs root ≡ Ok order)
unfolding missing_of order_of
missing-weak pairs root ms is weak =
    let a = came (search (length pairs) pairs root (unsought pairs)) (λ s. Ok s.missing) ms is in
    let same : a.value.missing ≡ ms = same_ok (Ok a.value.missing) _ _ refl a.leads in
    let follows = search-follows (length pairs) pairs root (unsought pairs) a.value a.is (subst AreWeak (sym same) weak) in
    let b = follows.goes (unwalked pairs) refl in
    (b.0.order, ap (λ r. r >>= (λ s. Ok s.order)) b.1)
