-- The fragments of library entries.
use Rattle.std.proofs.Common.{◌≡◌, ℕ, ◌<◌, Bool, true, false, cond, List, length, Option, None, Some, Ok, Err, refl, ap}
use Rattle.std.specs.Prelude.{Result, nat_lt}
use Rattle.std.specs.Option.{option_map_or}
use Rattle.std.specs.Result.{result_unwrap_or}
use Rattle.std.proofs.lemmas.Bool.{ltb-true}
use Rattle.pef_format.specs.Symbols.{options_of}
use Rattle.pef_format.specs.declared.place.Part.TheVariants as part
use Rattle.pef_loader.specs.Library.{Library, library_in}
use Rattle.pef_loader.specs.Loader.{Loaded, library_of}
use Rattle.cfm_closure.specs.declared.versions.Fit.{Fit}
use Rattle.cfm_closure.specs.declared.versions.Fit.TheVariants.{Fits, TooOld, TooNew}
use Rattle.cfm_store.specs.Stores.{Pair, pair_of, place_of}
use Rattle.cfm_store.proofs.Laws.{place_of-below, place_of-first}
use Rattle.cfm_closure.specs.Faults.{BindRefusal, library_missing, implementation_too_old, implementation_too_new}
use Rattle.cfm_closure.specs.Fragments.{Fragment, fragment_of, part_place}
use Rattle.cfm_closure.specs.Libraries.{absent_or, bound, bound_at, bound_by, bound_to, definition_of, fit_with, implementation_of, library_at}
use Rattle.cfm_closure.proofs.WalkRules.{came}

absent_or-none : (weak : Bool) (r : BindRefusal) (q : ℕ) → absent_or weak r ≡ Ok (Some q) → ⊥
absent_or-none true r q is = cc
absent_or-none false r q is = cc

bound_by-place : (fit : Fit) (f : Fragment) (i : ℕ) (l : Library) (g : Fragment) (p q : ℕ) → bound_by fit f i l g p ≡ Ok (Some q) → p ≡ q
bound_by-place Fits f i l g p q is = cc
bound_by-place TooOld f i l g p q is = absurd (absent_or-none (options_of l.fields.options).weak (implementation_too_old f.name l.name (part_place f part.Library i 4) (definition_of l) (implementation_of g)) q is)
bound_by-place TooNew f i l g p q is = absurd (absent_or-none (options_of l.fields.options).weak (implementation_too_new f.name l.name (part_place f part.Library i 4) (definition_of l) (implementation_of g)) q is)

bound_at-place : (pairs : List Pair) (f : Fragment) (i : ℕ) (l : Library) (o : Option ℕ) (q : ℕ) → bound_at pairs f i l o ≡ Ok (Some q) → o ≡ Some q
bound_at-place pairs f i l None q is = absurd (absent_or-none (options_of l.fields.options).weak (library_missing f.name l.name (part_place f part.Library i 0)) q is)
bound_at-place pairs f i l (Some p) q is =
    let a = came (fragment_of pairs p) (λ g. bound_by (fit_with l g) f i l g p) (Some q) is in
    ap Some (bound_by-place (fit_with l a.value) f i l a.value p q a.leads)

-- a library entry means the first fragment with its name
pub bound-place : (pairs : List Pair) (f : Fragment) (i : ℕ) (l : Library) (q : ℕ) → bound pairs f i l ≡ Ok (Some q) → place_of pairs l.name ≡ Some q
unfolding bound
bound-place pairs f i l q is = bound_at-place pairs f i l (place_of pairs l.name) q is

-- only entries that exist have a fragment
pub met_if : {A : Type 0} (b : Bool) (o : Option A) (x : A) → cond b o None ≡ Some x → b ≡ true
met_if true o x is = refl
met_if false o x is = absurd (cc)

pub library_of-below : (l : Loaded) (i : ℕ) (x : Library) → library_of l i ≡ Some x → i < l.header.library_count
unfolding library_of library_in
library_of-below l i x is = ltb-true i l.header.library_count (met_if (nat_lt i l.header.library_count) _ x is)

-- the facts of an entry that has a fragment
pub record StandsFor (pairs : List Pair) (p l q : ℕ) : Type 0 where
  pub fragment : Fragment
  pub read : fragment_of pairs p ≡ Ok fragment
  pub below : l < fragment.loader.header.library_count
  pub library : Library
  pub entry : library_of fragment.loader l ≡ Some library
  pub named : place_of pairs library.name ≡ Some q
  pub inside : q < length pairs
  pub first : place_of pairs (pair_of pairs q).name ≡ Some q

pub stands_for : (pairs : List Pair) (p l q : ℕ) → bound_to pairs p l ≡ Ok (Some q) → StandsFor pairs p l q
unfolding bound_to
stands_for pairs p l q is =
    let a = came (fragment_of pairs p) (λ f. option_map_or (bound pairs f l) (library_of f.loader l) (Ok None)) (Some q) is in
    by a.value a.is (library_of a.value.loader l) refl a.leads
  where
    by : (f : Fragment) → fragment_of pairs p ≡ Ok f → (o : Option Library) → library_of f.loader l ≡ o → option_map_or (bound pairs f l) o (Ok None) ≡ Ok (Some q) → StandsFor pairs p l q
    by f read None there is = absurd (cc)
    by f read (Some x) there is = record {
      fragment = f;
      read = read;
      below = library_of-below f.loader l x there;
      library = x;
      entry = there;
      named = bound-place pairs f l x q is;
      inside = place_of-below pairs x.name q (bound-place pairs f l x q is);
      first = place_of-first pairs x.name q (bound-place pairs f l x q is);
    }

pub library_at-is : (pairs : List Pair) (p l q : ℕ) → library_at pairs p l ≡ Some q → bound_to pairs p l ≡ Ok (Some q)
library_at-is pairs p l q is = by (bound_to pairs p l) is
  where
    by : (r : Result (Option ℕ) BindRefusal) → result_unwrap_or r None ≡ Some q → r ≡ Ok (Some q)
    by (Ok o) is = ap Ok is
    by (Err e) is = absurd (cc)
