-- Which fragment a library entry means, and why one is refused.
use Rattle.std.proofs.Common.{◌≡◌, ℕ, ◌<◌, Bool, true, false, List, length, Option, None, Some, Ok, Err, refl, ap}
use Rattle.std.specs.Prelude.{Result}
use Rattle.std.specs.Option.{option_map_or}
use Rattle.std.specs.Result.{result_unwrap_or}
use Rattle.pef_format.specs.Symbols.{options_of}
use Rattle.pef_format.specs.declared.place.Part.TheVariants as part
use Rattle.pef_loader.specs.Library.{Library}
use Rattle.pef_loader.specs.Loader.{library_of}
use Rattle.pef_words.specs.Results.{◌>>=◌}
use Rattle.cfm_store.specs.Stores.{Pair, place_of}
use Rattle.cfm_store.proofs.Laws.{place_of-below}
use Rattle.cfm_closure.specs.declared.versions.Fit.{Fit}
use Rattle.cfm_closure.specs.declared.versions.Fit.TheVariants.{Fits, TooOld, TooNew}
use Rattle.cfm_closure.specs.Faults.{BindRefusal, library_missing, implementation_too_old, implementation_too_new}
use Rattle.cfm_closure.specs.Fragments.{Fragment, fragment_of, part_place}
use Rattle.cfm_closure.specs.Libraries.{absent_or, bound, bound_at, bound_by, bound_to, definition_of, fit_with, implementation_of, library_at}
use Rattle.cfm_stubs.specs.Stubbed.{Names}

absent_or-none : (weak : Bool) (r : BindRefusal) (q : ℕ) → absent_or weak r ≡ Ok (Some q) → ⊥
absent_or-none true r q is = cc
absent_or-none false r q is = cc

by-place : (fit : Fit) (f : Fragment) (i : ℕ) (l : Library) (g : Fragment) (p q : ℕ) → bound_by fit f i l g p ≡ Ok (Some q) → p ≡ q
by-place Fits f i l g p q is = cc
by-place TooOld f i l g p q is = absurd (absent_or-none (options_of l.fields.options).weak (implementation_too_old f.name l.name (part_place f part.Library i 4) (definition_of l) (implementation_of g)) q is)
by-place TooNew f i l g p q is = absurd (absent_or-none (options_of l.fields.options).weak (implementation_too_new f.name l.name (part_place f part.Library i 4) (definition_of l) (implementation_of g)) q is)

at-place : (pairs : List Pair) (f : Fragment) (i : ℕ) (l : Library) (o : Option ℕ) (q : ℕ) → bound_at pairs f i l o ≡ Ok (Some q) → o ≡ Some q
at-place pairs f i l None q is = absurd (absent_or-none (options_of l.fields.options).weak (library_missing f.name l.name (part_place f part.Library i 0)) q is)
at-place pairs f i l (Some p) q is = by (fragment_of pairs p) is
  where
    by : (r : Result Fragment BindRefusal) → (r >>= (λ g. bound_by (fit_with l g) f i l g p)) ≡ Ok (Some q) → Some p ≡ Some q
    by (Ok g) is = ap Some (by-place (fit_with l g) f i l g p q is)
    by (Err e) is = absurd (cc)

-- an entry that has a fragment means the first with its name
pub bound-names : (pairs : List Pair) (p k q : ℕ) → bound_to pairs p k ≡ Ok (Some q) → Names pairs p k q
unfolding bound_to bound
bound-names pairs p k q is = by (fragment_of pairs p) refl is
  where
    at : (f : Fragment) → fragment_of pairs p ≡ Ok f → (o : Option Library) → library_of f.loader k ≡ o → option_map_or (bound pairs f k) o (Ok None) ≡ Ok (Some q) → Names pairs p k q
    at f read None there is = absurd (cc)
    at f read (Some x) there is = record { fragment = f; read = read; library = x; entry = there; place = at-place pairs f k x (place_of pairs x.name) q is }

    by : (r : Result Fragment BindRefusal) → fragment_of pairs p ≡ r → (r >>= (λ f. option_map_or (bound pairs f k) (library_of f.loader k) (Ok None))) ≡ Ok (Some q) → Names pairs p k q
    by (Ok f) read is = at f read (library_of f.loader k) refl is
    by (Err e) read is = absurd (cc)

pub bound-below : (pairs : List Pair) (p k q : ℕ) → bound_to pairs p k ≡ Ok (Some q) → q < length pairs
bound-below pairs p k q is = let n = bound-names pairs p k q is in place_of-below pairs n.library.name q n.place

pub library_at-bound : (pairs : List Pair) (p k q : ℕ) → library_at pairs p k ≡ Some q → bound_to pairs p k ≡ Ok (Some q)
library_at-bound pairs p k q is = by (bound_to pairs p k) is
  where
    by : (r : Result (Option ℕ) BindRefusal) → result_unwrap_or r None ≡ Some q → r ≡ Ok (Some q)
    by (Ok o) is = ap Ok is
    by (Err e) is = absurd (cc)
