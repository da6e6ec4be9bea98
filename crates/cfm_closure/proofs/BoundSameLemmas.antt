-- Two stores in which the names of the library entries of an order mean the same pairs.
use Rattle.std.proofs.Common.{◌≡◌, ℕ, List, Option, None, Some, Ok, Err, refl, ap, ◌∙◌, Contains}
use Rattle.std.specs.Prelude.{Result}
use Rattle.std.specs.Option.{option_map_or}
use Rattle.pef_loader.specs.Library.{Library}
use Rattle.pef_loader.specs.Loader.{library_of}
use Rattle.pef_words.specs.Results.{◌>>=◌}
use Rattle.cfm_closure.specs.Faults.{BindRefusal}
use Rattle.cfm_closure.specs.Fragments.{Fragment, fragment_of}
use Rattle.cfm_closure.specs.Libraries.{bound, bound_at, bound_by, bound_to, fit_with}
use Rattle.cfm_store.specs.Stores.{Pair, pair_of, place_of}
use Rattle.cfm_closure.proofs.SameLemmas.{AreSame, fragment_of-same}

-- names of some kind have the same places, with the same pairs
module _ (pairs pairs' : List Pair) (Stays : List ℕ → Type 0)
    (names : (name : List ℕ) → Stays name → place_of pairs' name ≡ place_of pairs name)
    (kept : (name : List ℕ) (q : ℕ) → Stays name → place_of pairs name ≡ Some q → pair_of pairs' q ≡ pair_of pairs q) where
  -- a library entry with such a name means what it meant
  bound-same : (f : Fragment) (i : ℕ) (l : Library) → Stays l.name → bound pairs' f i l ≡ bound pairs f i l
  unfolding bound
  bound-same f i l stays = ap (bound_at pairs' f i l) (names l.name stays) ∙ at (place_of pairs l.name) refl
    where
      at : (o : Option ℕ) → place_of pairs l.name ≡ o → bound_at pairs' f i l o ≡ bound_at pairs f i l o
      at None is = refl
      at (Some q) is = ap (λ r. r >>= (λ g. bound_by (fit_with l g) f i l g q)) (fragment_of-same pairs pairs' q (kept l.name q stays is))

  -- all entries of an order have such names
  module _ (order : List ℕ) (member : (p : ℕ) → Contains order p → pair_of pairs' p ≡ pair_of pairs p)
      (entries : (p l : ℕ) (f : Fragment) (library : Library) → Contains order p → fragment_of pairs p ≡ Ok f → library_of f.loader l ≡ Some library → Stays library.name) where
    bound_to-same : (p l : ℕ) → Contains order p → bound_to pairs' p l ≡ bound_to pairs p l
    unfolding bound_to
    bound_to-same p l there =
        ap (λ r. r >>= (λ f. option_map_or (bound pairs' f l) (library_of f.loader l) (Ok None))) (fragment_of-same pairs pairs' p (member p there))
        ∙ of (fragment_of pairs p) refl
      where
        at : (f : Fragment) → fragment_of pairs p ≡ Ok f → (o : Option Library) → library_of f.loader l ≡ o → option_map_or (bound pairs' f l) o (Ok None) ≡ option_map_or (bound pairs f l) o (Ok None)
        at f read None entry = refl
        at f read (Some library) entry = bound-same f l library (entries p l f library there read entry)

        of : (r : Result Fragment BindRefusal) → fragment_of pairs p ≡ r → (r >>= (λ f. option_map_or (bound pairs' f l) (library_of f.loader l) (Ok None))) ≡ (r >>= (λ f. option_map_or (bound pairs f l) (library_of f.loader l) (Ok None)))
        of (Ok f) read = at f read (library_of f.loader l) refl
        of (Err e) read = refl

    pub are-same : AreSame pairs pairs' order
    are-same p there = record { pair = member p there; bound = λ l. bound_to-same p l there }
