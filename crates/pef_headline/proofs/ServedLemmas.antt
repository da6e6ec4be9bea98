-- An import means the symbol that the fragment of its library exports under its name.
use Rattle.std.proofs.Common.{◌≡◌, ℕ, zero, suc, ◌==◌, ◌<◌, Bool, true, false, List, [], ◌∷◌, Option, None, Some, Ok, Err, Contains, cond, option_map, refl, sym, ap, subst, ◌∙◌}
use Rattle.std.specs.Prelude.{Result, nat_lt}
use Rattle.std.specs.Option.{option_and_then, option_map_or}
use Rattle.std.specs.Result.{result_ok, result_unwrap_or}
use Rattle.std.proofs.lemmas.Bool.{ltb-true}
use Rattle.cfm_prepare.proofs.Laws.{has-at, has-contains}
use Rattle.std.proofs.lemmas.List.Elements.{Contains-push}
use Rattle.std.proofs.lemmas.Option.{same_Some}
use Rattle.cfm_closure.specs.Closures.{Closed}
use Rattle.cfm_closure.specs.Faults.{BindRefusal, reexport_loop, symbol_missing}
use Rattle.cfm_closure.specs.Fragments.{Fragment, import_at, import_count, import_place, loader_at}
use Rattle.cfm_closure.specs.Libraries.{bound, bound_to, library_at}
use Rattle.cfm_closure.specs.Orders.{HasLibrary, IsComplete, IsMember}
use Rattle.cfm_store.specs.Stores.{Pair, pair_of}
use Rattle.cfm_closure.specs.Targets.{Hop, ends, exported, exports_in, follow, followed, hop, hop_by, hop_to, symbol_of as import_name, target_of, through}
use Rattle.cfm_closure.specs.declared.targets.Target.{Target}
use Rattle.cfm_closure.specs.declared.targets.Target.TheVariants.{Absolute, At}
use Rattle.cfm_closure.proofs.Laws.{closed-complete, closed-root, closed-target}
use Rattle.cfm_prepare.specs.Addresses.{target_address}
use Rattle.cfm_prepare.specs.Contexts.{ContextState, Open, made_state, open_of}
use Rattle.cfm_prepare.specs.Fragments.{Present}
use Rattle.cfm_prepare.specs.Lists.{has}
use Rattle.cfm_prepare.specs.Options.{Choices}
use Rattle.cfm_prepare.specs.Readers.{export_address, import_at as meaning_at, import_target_of, symbol_address, symbol_at, symbol_of}
use Rattle.cfm_prepare.specs.Runs.{AreClosed, IsStill, Runs, Step}
use Rattle.cfm_prepare.specs.declared.imports.ImportTarget.{ImportTarget}
use Rattle.pef_format.specs.Exports.{Export, value_of}
use Rattle.pef_format.specs.Symbols.{Import}
use Rattle.pef_format.specs.declared.export.ExportValue.{ExportValue}
use Rattle.pef_format.specs.declared.export.ExportValue.TheVariants.{InSection, Reexport}
use Rattle.pef_format.specs.declared.export.ExportValue.TheVariants as value
use Rattle.pef_format.specs.declared.place.Place.{Place}
use Rattle.pef_loader.specs.Library.{Library, library_in}
use Rattle.pef_loader.specs.Loader.{Loaded, export_of, library_of, named_of}
use Rattle.pef_words.specs.Results.{◌>>=◌}
use Rattle.pef_headline.specs.Served.{HasAddressOf, IsOpen, IsServed, LeadsWhere, MeansSymbol, exported_target, named_target, no_target}
use Rattle.pef_headline.proofs.ImportLemmas.{import-leads}

-- what is there if a test is met
met-if : {A : Type 0} (b : Bool) (o : Option A) (x : A) → cond b o None ≡ Some x → b ≡ true
met-if true o x is = refl
met-if false o x is = absurd (cc)

library-below : (l : Loaded) (i : ℕ) (x : Library) → library_of l i ≡ Some x → i < l.header.library_count
unfolding library_of library_in
library-below l i x is = ltb-true i l.header.library_count (met-if (nat_lt i l.header.library_count) _ x is)

-- what a context told of an import
told : (a b : Bool) (x y : ImportTarget) → cond a (cond b (Some x) None) None ≡ Some y → (a ≡ true) × (b ≡ true) × (x ≡ y)
told true true x y is = (refl, refl, same_Some x y is)
told true false x y is = absurd (cc)
told false b x y is = absurd (cc)

module _ (pairs : List Pair) where
  -- a result stays if more hops are allowed
  follow-more : (n p j : ℕ) (a : Result (Option Target) BindRefusal) → follow n pairs p j ≡ Some a → follow (suc n) pairs p j ≡ Some a
  unfolding follow
  follow-more zero p j a is = by (hop pairs p j) is
    where
      by : (r : Result Hop BindRefusal) → followed (λ q k. None) r ≡ Some a → followed (follow zero pairs) r ≡ Some a
      by (Ok (ends t)) is = is
      by (Ok (through q e k)) is = absurd (cc)
      by (Err r) is = is
  follow-more (suc n) p j a is = by (hop pairs p j) is (λ q k. follow-more n q k a)
    where
      by : (r : Result Hop BindRefusal) → followed (follow n pairs) r ≡ Some a → ((q k : ℕ) → follow n pairs q k ≡ Some a → follow (suc n) pairs q k ≡ Some a) → followed (follow (suc n) pairs) r ≡ Some a
      by (Ok (ends t)) is deeper = is
      by (Ok (through q e k)) is deeper = deeper q k is
      by (Err r) is deeper = is

  -- the result after a hop that continues, that ends, and that is refused
  follow-through : (n p j q e k : ℕ) (a : Result (Option Target) BindRefusal) → hop pairs p j ≡ Ok (through q e k) → follow n pairs p j ≡ Some a → follow n pairs q k ≡ Some a
  unfolding follow
  follow-through zero p j q e k a at is = absurd (let none : None ≡ Some a = sym (ap (followed (λ q k. None)) at) ∙ is in cc)
  follow-through (suc n) p j q e k a at is = follow-more n q k a (sym (ap (followed (follow n pairs)) at) ∙ is)

  follow-ends : (n p j : ℕ) (u : Option Target) → hop pairs p j ≡ Ok (ends u) → follow n pairs p j ≡ Some (Ok u)
  unfolding follow
  follow-ends zero p j u at = ap (followed (λ q k. None)) at
  follow-ends (suc n) p j u at = ap (followed (follow n pairs)) at

  follow-refused : (n p j : ℕ) (r : BindRefusal) → hop pairs p j ≡ Err r → follow n pairs p j ≡ Some (Err r)
  unfolding follow
  follow-refused zero p j r at = ap (followed (λ q k. None)) at
  follow-refused (suc n) p j r at = ap (followed (follow n pairs)) at

  abbrev endless : ℕ → ℕ → Result (Option Target) BindRefusal
  endless p j = Err (reexport_loop (pair_of pairs p).name (import_name pairs p j) (import_place pairs p j))

  target-follows : (p j : ℕ) (t : Option Target) → target_of pairs p j ≡ Ok t → follow (exports_in pairs) pairs p j ≡ Some (Ok t)
  unfolding target_of
  target-follows p j t is = by (follow (exports_in pairs) pairs p j) is
    where
      by : (o : Option (Result (Option Target) BindRefusal)) → option_map_or (λ answer. answer) o (endless p j) ≡ Ok t → o ≡ Some (Ok t)
      by None is = absurd (cc)
      by (Some a) is = ap Some is

  follows-target : (p j : ℕ) (t : Option Target) → follow (exports_in pairs) pairs p j ≡ Some (Ok t) → target_of pairs p j ≡ Ok t
  unfolding target_of
  follows-target p j t is = ap (λ o. option_map_or (λ (answer : Result (Option Target) BindRefusal). answer) o (endless p j)) is

  -- so an import has the target to which its hop leads, and it isn't refused
  target-through : (p j q e k : ℕ) (t : Option Target) → target_of pairs p j ≡ Ok t → hop pairs p j ≡ Ok (through q e k) → target_of pairs q k ≡ Ok t
  target-through p j q e k t is at = follows-target q k t (follow-through (exports_in pairs) p j q e k (Ok t) at (target-follows p j t is))

  target-ends : (p j : ℕ) (t u : Option Target) → target_of pairs p j ≡ Ok t → hop pairs p j ≡ Ok (ends u) → t ≡ u
  target-ends p j t u is at =
      let one = target-follows p j t is in
      let two = follow-ends (exports_in pairs) p j u at in
      cc

  target-unrefused : (p j : ℕ) (t : Option Target) (r : BindRefusal) → target_of pairs p j ≡ Ok t → hop pairs p j ≡ Err r → ⊥
  target-unrefused p j t r is at =
      let one = target-follows p j t is in
      let two = follow-refused (exports_in pairs) p j r at in
      cc

abbrev meaning : List Present → Option Target → ImportTarget
meaning all t = record { target = t; address = target_address all t }

-- the library entries of a closure's fragments mean fragments of the closure, or none
module _ (pairs : List Pair) (order : List ℕ) (complete : IsComplete pairs order) where
  library-bound : (p l : ℕ) → Contains order p → HasLibrary pairs order p l
  unfolding bound_to
  library-bound p l there = by (library_of m.fragment.loader l) refl
    where
      m : IsMember pairs order p
      m = complete.members p there

      by : (o : Option Library) → library_of m.fragment.loader l ≡ o → HasLibrary pairs order p l
      by None was = record {
        bound = None;
        is = ap (λ r. r >>= (λ (g : Fragment). option_map_or (bound pairs g l) (library_of g.loader l) (Ok None))) m.read
            ∙ ap (λ o. option_map_or (bound pairs m.fragment l) o (Ok None)) was;
        inside = λ q is. absurd (cc);
      }
      by (Some library) was = m.libraries l (library-below m.fragment.loader l library was)

  -- an import with a target
  module _ (all : List Present) (p j : ℕ) (import : Import) (t : Option Target) (at : import_at pairs p j ≡ Some import) (is : target_of pairs p j ≡ Ok t) where
    -- by the value of the export
    by-value : (q e : ℕ) (v : ExportValue) → hop pairs p j ≡ Ok (hop_by q e v) → t ≡ exported_target pairs q v
    by-value q e (InSection section offset) hops = target-ends pairs p j t (Some (At q section offset)) is hops
    by-value q e (value.Absolute n) hops = target-ends pairs p j t (Some (Absolute n)) is hops
    by-value q e (Reexport k) hops = sym (ap (λ r. result_unwrap_or r None) (target-through pairs p j q e k t is hops))

    untargeted : hop pairs p j ≡ Ok (ends None) → meaning all t ≡ no_target
    untargeted hops = ap (meaning all) (target-ends pairs p j t None is hops)

    lacking : (r : BindRefusal) (weak : Bool) → hop pairs p j ≡ cond weak (Ok (ends None)) (Err r) → (weak ≡ true) × (meaning all t ≡ no_target)
    lacking r true hops = (refl, untargeted hops)
    lacking r false hops = absurd (target-unrefused pairs p j t r is hops)

    abbrev leads_in : ℕ → Export → Option Target
    leads_in q x = exported_target pairs q (value_of x.fields.section x.fields.value)

    -- by the export with its name, if there is one
    by-name : (q : ℕ) (l : Loaded) (here library : List ℕ) (place : Place) (n : Option ℕ) → hop pairs p j ≡ hop_to here library place import q (option_and_then (λ e. option_map (λ x. (e, x)) (export_of l e)) n)
        → LeadsWhere all import (option_map (leads_in q) (option_and_then (export_of l) n)) (meaning all t)
    by-name q l here library place None hops = lacking (symbol_missing here library import.name place) import.fields.weak hops
    by-name q l here library place (Some e) hops = by (export_of l e) hops
      where
        by : (o : Option Export) → hop pairs p j ≡ hop_to here library place import q (option_map (λ x. (e, x)) o) → LeadsWhere all import (option_map (leads_in q) o) (meaning all t)
        by None hops = lacking (symbol_missing here library import.name place) import.fields.weak hops
        by (Some x) hops = ap (meaning all) (by-value q e (value_of x.fields.section x.fields.value) hops)

    by-library : (q : ℕ) → Contains order q → library_at pairs p import.library ≡ Some q → LeadsWhere all import (named_target pairs q import.name) (meaning all t)
    by-library q there led =
        let m = complete.members q there in
        let loads : loader_at pairs q ≡ Some m.fragment.loader = ap (λ r. option_map (λ (f : Fragment). f.loader) (result_ok r)) m.read in
        let here = (pair_of pairs p).name in
        let library = (pair_of pairs q).name in
        let place = import_place pairs p j in
        let hops = import-leads pairs p j import (Some q) at led ∙ ap (λ o. hop_to here library place import q (option_and_then (exported import.name) o)) loads in
        let symbol = ap (λ o. option_map (leads_in q) (option_and_then (λ (l : Loaded). option_and_then (export_of l) (named_of l import.name)) o)) loads in
        subst (λ (a : Option (Option Target)). LeadsWhere all import a (meaning all t)) (sym symbol)
        (by-name q m.fragment.loader here library place (named_of m.fragment.loader import.name) hops)

-- the address of an export is that of where it leads
exported-address : (pairs : List Pair) (all : List Present) (q : ℕ) (v : ExportValue) → target_address all (exported_target pairs q v) ≡ export_address pairs all q v
exported-address pairs all q (InSection section offset) = refl
exported-address pairs all q (value.Absolute n) = refl
exported-address pairs all q (Reexport k) = refl

named-address : (pairs : List Pair) (all : List Present) (q : ℕ) (name : List ℕ) → option_map (target_address all) (named_target pairs q name) ≡ symbol_at pairs all q name
named-address pairs all q name = by (option_and_then (λ (l : Loaded). option_and_then (export_of l) (named_of l name)) (loader_at pairs q))
  where
    by : (e : Option Export) → option_map (target_address all) (option_map (λ (x : Export). exported_target pairs q (value_of x.fields.section x.fields.value)) e) ≡ option_map (λ (x : Export). export_address pairs all q (value_of x.fields.section x.fields.value)) e
    by None = refl
    by (Some x) = ap Some (exported-address pairs all q (value_of x.fields.section x.fields.value))

-- so an import that means where an export leads has its address
leads-address : (all : List Present) (import : Import) (o : Option (Option Target)) (meant : ImportTarget) → LeadsWhere all import o meant → HasAddressOf import (option_map (target_address all) o) meant
leads-address all import None meant leads = leads
leads-address all import (Some t) meant leads = ap (λ (m : ImportTarget). m.address) leads

-- the closure of an open connection is still one of the store
open-still : (pairs : List Pair) (os : List Open) (number : ℕ) (o : Open) → AreClosed pairs os → open_of os number ≡ Some o → IsStill pairs o
open-still pairs [] number o are is = absurd (cc)
open-still pairs (x ∷ os) number o are is = by (x.number == number) is (λ later. open-still pairs os number o are.1 later)
  where
    by : (b : Bool) → cond b (Some x) (open_of os number) ≡ Some o → (open_of os number ≡ Some o → IsStill pairs o) → IsStill pairs o
    by true is deeper = let same : x ≡ o = cc in subst (IsStill pairs) same are.0
    by false is deeper = deeper is

-- so what it reports about its fragments is what the store says
module _ (pairs : List Pair) (all : List Present) (o : Open) (still : IsStill pairs o) where
  abbrev now : Closed
  now = record o.closed { pairs = pairs }

  loader-still : (q : ℕ) → Contains o.closed.order q → loader_at o.closed.pairs q ≡ loader_at pairs q
  loader-still q there = ap (λ r. option_map (λ (f : Fragment). f.loader) (result_ok r)) (sym (still.fragments q there))

  address-still : (q : ℕ) → Contains o.closed.order q → (v : ExportValue) → export_address o.closed.pairs all q v ≡ export_address pairs all q v
  address-still q there (InSection section offset) = refl
  address-still q there (value.Absolute n) = refl
  address-still q there (Reexport k) = ap (λ r. target_address all (result_unwrap_or r None)) (sym (still.targets q k there))

  symbol-here : (q : ℕ) (name : List ℕ) → Contains o.closed.order q → symbol_at o.closed.pairs all q name ≡ symbol_at pairs all q name
  symbol-here q name there =
      ap (λ o'. option_map (λ (x : Export). export_address o.closed.pairs all q (value_of x.fields.section x.fields.value)) (option_and_then (λ (l : Loaded). option_and_then (export_of l) (named_of l name)) o')) (loader-still q there)
      ∙ by (option_and_then (λ (l : Loaded). option_and_then (export_of l) (named_of l name)) (loader_at pairs q))
    where
      by : (e : Option Export) → option_map (λ (x : Export). export_address o.closed.pairs all q (value_of x.fields.section x.fields.value)) e ≡ option_map (λ (x : Export). export_address pairs all q (value_of x.fields.section x.fields.value)) e
      by None = refl
      by (Some x) = ap Some (address-still q there (value_of x.fields.section x.fields.value))

  symbol-still : (q : ℕ) (name : List ℕ) → Contains o.closed.order q → symbol_of all o q name ≡ symbol_at pairs all q name
  symbol-still q name there = ap (λ b. cond b (symbol_at o.closed.pairs all q name) None) (has-at o.closed.order q there) ∙ symbol-here q name there

  root-inside : Contains o.closed.order o.root
  root-inside =
      let ends = closed-root pairs o.root now still.inside still.closed in
      subst (λ order. Contains order o.root) (sym ends.1) (Contains-push ends.0 o.root)

  root-still : (name : List ℕ) → symbol_address all o name ≡ symbol_at pairs all o.root name
  root-still name = symbol-here o.root name root-inside

-- what the law `present_fragments` of `cfm_prepare` says of closures
abbrev AreReached : Type 0
AreReached = (pairs : List Pair) (choices : Choices) (steps : List Step) (t : ContextState) → Runs (made_state pairs choices) steps t → AreClosed t.pairs t.connections

still-open : AreReached → (s : ContextState) (o : Open) → IsOpen s o → IsStill s.pairs o
still-open closed s o is =
    let reached = is.reached in
    open-still s.pairs s.connections is.number o (closed reached.pairs reached.choices reached.steps s reached.run) is.is

pub symbols-mean : AreReached → (s : ContextState) (o : Open) (p j : ℕ) (import : Import) (meant : ImportTarget) → IsOpen s o → import_at s.pairs p j ≡ Some import → import_target_of s.present o p j ≡ Some meant → MeansSymbol s o p import meant
symbols-mean closed s o p j import meant is at given =
    let still = still-open closed s o is in
    let parts = told (has o.closed.order p) (nat_lt j (import_count o.closed.pairs p)) (meaning_at o.closed.pairs s.present p j) meant given in
    let there = has-contains o.closed.order p parts.0 in
    let c = now s.pairs s.present o still in
    let complete = closed-complete s.pairs o.root c still.closed in
    let count : Option Loaded → Bool = λ l. nat_lt j (option_map_or (λ (l : Loaded). l.header.import_count) l 0) in
    let below : nat_lt j (import_count s.pairs p) ≡ true = sym (ap count (loader-still s.pairs s.present o still p there)) ∙ parts.1 in
    let target = closed-target s.pairs o.root c p j still.closed there (ltb-true j (import_count s.pairs p) below) in
    let same : meaning s.present target.0 ≡ meant = sym (ap (λ r. meaning s.present (result_unwrap_or r None)) (sym (still.targets p j there) ∙ target.1)) ∙ parts.2 in
    let entry = library-bound s.pairs o.closed.order complete p import.library there in
    subst (MeansSymbol s o p import) same (record {
      library = entry.bound;
      bound = entry.is;
      served = by still complete target.0 target.1 entry.bound (ap (λ r. result_unwrap_or r None) entry.is) entry.inside;
    })
  where
    by : IsStill s.pairs o → IsComplete s.pairs o.closed.order → (t : Option Target) → target_of s.pairs p j ≡ Ok t → (library : Option ℕ) → library_at s.pairs p import.library ≡ library → ((q : ℕ) → library ≡ Some q → Contains o.closed.order q)
        → IsServed s o import (meaning s.present t) library
    by still complete t targets None led inside =
        untargeted s.pairs o.closed.order complete s.present p j import t at targets (import-leads s.pairs p j import None at led)
    by still complete t targets (Some q) led inside =
        let here = inside q refl in
        let leads = by-library s.pairs o.closed.order complete s.present p j import t at targets q here led in
        let same = named-address s.pairs s.present q import.name ∙ sym (symbol-still s.pairs s.present o still q import.name here) in
        record {
          inside = here;
          target = leads;
          address = subst (λ (a : Option ℕ). HasAddressOf import a (meaning s.present t)) same (leads-address s.present import (named_target s.pairs q import.name) (meaning s.present t) leads);
        }

pub symbols-agree : AreReached → (s : ContextState) (o x : Open) (q : ℕ) (name : List ℕ) → IsOpen s o → IsOpen s x → Contains o.closed.order q → Contains x.closed.order q → symbol_of s.present x q name ≡ symbol_of s.present o q name
symbols-agree closed s o x q name is other there here =
    symbol-still s.pairs s.present x (still-open closed s x other) q name here ∙ sym (symbol-still s.pairs s.present o (still-open closed s o is) q name there)

pub symbols-root : AreReached → (s : ContextState) (o x : Open) (name : List ℕ) → IsOpen s o → IsOpen s x → Contains o.closed.order x.root → symbol_address s.present x name ≡ symbol_of s.present o x.root name
symbols-root closed s o x name is other there =
    root-still s.pairs s.present x (still-open closed s x other) name ∙ sym (symbol-still s.pairs s.present o (still-open closed s o is) x.root name there)
