-- If a closure is refused for a fragment's bytes, that fragment is one of the store that isn't
-- read.
use Rattle.std.proofs.Common.{◌≡◌, ℕ, ◌<◌, List, length, Some, Ok, Err, sym, ◌∙◌, subst}
use Rattle.std.specs.Prelude.{◌⊎◌, ⊤}
use Rattle.pef_format.specs.declared.place.Place.{Place}
use Rattle.pef_loader.specs.declared.fault.LoaderFault.{LoaderFault}
use Rattle.pef_views.specs.declared.fault.ViewFault.{ViewFault}
use Rattle.cfm_store.specs.Stores.{Pair, pair_of, place_of}
use Rattle.cfm_closure.specs.Faults.{BindRefusal, implementation_too_new, implementation_too_old, init_loop, library_missing, no_container, no_loader, reexport_loop, symbol_missing}
use Rattle.cfm_closure.specs.Fragments.{fragment_of}
use Rattle.cfm_closure.specs.Closures.{closed_of}
use Rattle.cfm_closure.specs.Promises.{AllRead, IsOfBinding, IsOfUnread}
use Rattle.cfm_closure.proofs.RefusalLemmas.{Binds, Covers, IsMet, IsNamed, closed-binds, fragment-named}

module _ (pairs : List Pair) (root : ℕ) where
  -- a refusal for bytes is one of a fragment that isn't read
  abbrev Tells : BindRefusal → Type 0
  Tells (no_container f v) = IsOfUnread pairs root f (no_container f v)
  Tells (no_loader f v place) = IsOfUnread pairs root f (no_loader f v place)
  Tells (library_missing f l place) = ⊤
  Tells (symbol_missing f l s place) = ⊤
  Tells (implementation_too_old f l place needed found) = ⊤
  Tells (implementation_too_new f l place needed found) = ⊤
  Tells (reexport_loop f s place) = ⊤
  Tells (init_loop f place) = ⊤

  unread : (p : ℕ) (name : List ℕ) (r : BindRefusal) → IsMet pairs root p → fragment_of pairs p ≡ Err r → (pair_of pairs p).name ≡ name → IsOfUnread pairs root name r
  unread p name r met is named = record {
    position = p;
    inside = met.inside;
    named = named;
    found = let P : List ℕ → Type 0 = λ name. (p ≡ root) ⊎ (place_of pairs name ≡ Some p) in subst P named met.found;
    refused = is;
  }

  -- a refusal of a fragment that a walk visits names that one
  told : (p : ℕ) (r : BindRefusal) → IsMet pairs root p → fragment_of pairs p ≡ Err r → Tells r
  told p r met is = by r is (fragment-named pairs p r is)
    where
      by : (r : BindRefusal) → fragment_of pairs p ≡ Err r → IsNamed (pair_of pairs p).name r → Tells r
      by (no_container f v) is named = unread p f (no_container f v) met is named
      by (no_loader f v place) is named = unread p f (no_loader f v place) met is named
      by (library_missing f l place) is named = tt
      by (symbol_missing f l s place) is named = tt
      by (implementation_too_old f l place needed found) is named = tt
      by (implementation_too_new f l place needed found) is named = tt
      by (reexport_loop f s place) is named = tt
      by (init_loop f place) is named = tt

  all_tell : Covers pairs root Tells
  all_tell = record {
    library = λ f l place. tt;
    symbol = λ f l s place. tt;
    too_old = λ f l place needed found. tt;
    too_new = λ f l place needed found. tt;
    init = λ f place. tt;
    bytes = told;
  }

  -- so a closure that is refused for the bytes of a fragment names one that isn't read
  closed-tells : (r : BindRefusal) → root < length pairs → closed_of pairs root ≡ Err r → Tells r
  closed-tells r inside is = subst (Binds pairs root Tells all_tell) is (closed-binds pairs root Tells all_tell (λ p j. tt) inside)

  pub closed-no_container : (name : List ℕ) (v : ViewFault) → root < length pairs → closed_of pairs root ≡ Err (no_container name v) → IsOfUnread pairs root name (no_container name v)
  closed-no_container name v inside is = closed-tells (no_container name v) inside is

  pub closed-no_loader : (name : List ℕ) (v : LoaderFault) (place : Place) → root < length pairs → closed_of pairs root ≡ Err (no_loader name v place) → IsOfUnread pairs root name (no_loader name v place)
  closed-no_loader name v place inside is = closed-tells (no_loader name v place) inside is

-- .. and if all fragments are read, there is none
none-unread : (pairs : List Pair) (root : ℕ) → AllRead pairs → (name : List ℕ) (r : BindRefusal) → IsOfUnread pairs root name r → ⊥
none-unread pairs root read name r of =
    let f = read of.position of.inside in
    let both : Ok f.0 ≡ Err r = sym f.1 ∙ of.refused in
    cc

pub closed-refused : (pairs : List Pair) → AllRead pairs → (root : ℕ) (r : BindRefusal) → root < length pairs → closed_of pairs root ≡ Err r → IsOfBinding r
closed-refused pairs read root r inside is = by r (closed-tells pairs root r inside is)
  where
    by : (r : BindRefusal) → Tells pairs root r → IsOfBinding r
    by (no_container f v) tells = none-unread pairs root read f (no_container f v) tells
    by (no_loader f v place) tells = none-unread pairs root read f (no_loader f v place) tells
    by (library_missing f l place) tells = tt
    by (symbol_missing f l s place) tells = tt
    by (implementation_too_old f l place needed found) tells = tt
    by (implementation_too_new f l place needed found) tells = tt
    by (reexport_loop f s place) tells = tt
    by (init_loop f place) tells = tt
