-- A library of a closure that the store lacks.
use Rattle.std.proofs.Common.{◌≡◌, ℕ, Bool, true, false, List, Option, None, Some, Ok, refl, sym, ap, ◌∙◌, subst, Contains}
use Rattle.pef_format.specs.Symbols.{options_of}
use Rattle.pef_format.specs.declared.place.Part.TheVariants as part
use Rattle.pef_loader.specs.Library.{Library}
use Rattle.pef_loader.specs.Loader.{Loaded, library_of}
use Rattle.cfm_closure.specs.Closures.{Closed, closed_of}
use Rattle.cfm_closure.specs.Faults.{BindRefusal, library_missing}
use Rattle.cfm_closure.specs.Fragments.{loader_at, part_place}
use Rattle.cfm_closure.specs.Libraries.{absent_or, bound, bound_at, bound_to}
use Rattle.cfm_store.specs.Stores.{Pair, place_of}
use Rattle.cfm_closure.proofs.BoundLemmas.{library_of-below}
use Rattle.cfm_closure.proofs.ClosedLemmas.{closed-complete}
use Rattle.cfm_closure.proofs.HopFacts.{loader_at-is}
use Rattle.cfm_closure.proofs.PathLemmas.{bound_to-is}

-- an entry whose name the store lacks was bound to nothing, and is weak
absent-weak : (weak : Bool) (r : BindRefusal) (b : Option ℕ) → absent_or weak r ≡ Ok b → (weak ≡ true) × (b ≡ None)
absent-weak true r b is = (refl, cc)
absent-weak false r b is = absurd (cc)

-- so a library of a closure that the store lacks is weak, and was bound to nothing
pub closed-missing : (pairs : List Pair) (root : ℕ) (c : Closed) (p l : ℕ) (loader : Loaded) (library : Library) → closed_of pairs root ≡ Ok c → Contains c.order p → loader_at pairs p ≡ Some loader → library_of loader l ≡ Some library
    → place_of pairs library.name ≡ None → ((options_of library.fields.options).weak ≡ true) × (bound_to pairs p l ≡ Ok None)
unfolding bound_to bound
closed-missing pairs root c p l loader library is there read entry lacks =
    let m = (closed-complete pairs root c is).members p there in
    let same : loader ≡ m.fragment.loader = (let e : Some loader ≡ Some m.fragment.loader = sym read ∙ loader_at-is pairs p m.fragment m.read in cc) in
    let entry' = subst (λ (loader : Loaded). library_of loader l ≡ Some library) same entry in
    let h = m.libraries l (library_of-below m.fragment.loader l library entry') in
    let absent = bound_to-is pairs p l m.fragment library m.read entry' ∙ ap (bound_at pairs m.fragment l library) lacks in
    let a = absent-weak (options_of library.fields.options).weak (library_missing m.fragment.name library.name (part_place m.fragment part.Library l 0)) h.bound (sym absent ∙ h.is) in
    (a.0, h.is ∙ ap Ok a.1)
