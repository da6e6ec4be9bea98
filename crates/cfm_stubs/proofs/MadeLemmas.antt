-- Stubs that are made for the fragments of a store are stubs of it.
use Rattle.std.proofs.Common.{◌≡◌, ◌∙◌, ℕ, zero, suc, ◌+◌, ◌<◌, ◌≤◌, ◌||◌, Bool, true, false, cond, List, [], ◌∷◌, ◌++◌, Option, None, Some, Ok, slice_get, option_map, inl, inr, refl, sym, ap, ap₂, subst, arith}
use Rattle.std.specs.Prelude.{if◌then◌else◌, nat_lt}
use Rattle.std.specs.List.{AllByRecursion, flat_map, list_any}
use Rattle.std.specs.Option.{option_and_then, option_map_or}
use Rattle.std.specs.Str.{bytes_eq}
use Rattle.std.proofs.lemmas.Bool.{ltb-true}
use Rattle.std.proofs.lemmas.Bool.Decides.{eqb_tells}
use Rattle.std.proofs.lemmas.List.Folds.{list_any-append}
use Rattle.std.proofs.lemmas.Slice.Eq.{bytes_eq-Decides}
use Rattle.pef_format.specs.Exports.{Export, value_of}
use Rattle.pef_format.specs.Symbols.{Import}
use Rattle.pef_format.specs.declared.export.ExportValue.TheVariants.{Absolute}
use Rattle.pef_loader.specs.Import.{import_in}
use Rattle.pef_loader.specs.Library.{Library, library_in}
use Rattle.pef_loader.specs.Loader.{Loaded, export_of, import_of, library_of, named_of}
use Rattle.cfm_store.specs.Stores.{Pair, pair_of}
use Rattle.cfm_store.proofs.Laws.{place_of-named}
use Rattle.cfm_closure.specs.Fragments.{Fragment, fragment_of}
use Rattle.cfm_closure.specs.Libraries.{definition_of, fit_with}
use Rattle.cfm_closure.specs.Targets.{exported}
use Rattle.cfm_closure.specs.Versions.{fit_of}
use Rattle.cfm_closure.specs.declared.versions.Implementation.{Implementation}
use Rattle.cfm_closure.specs.declared.versions.Fit.TheVariants.{Fits}
use Rattle.cfm_stubs.specs.Fits.{implementation}
use Rattle.cfm_stubs.specs.Made.{HasMade, IsMade, number_in}
use Rattle.cfm_stubs.specs.Stubbed.{IsNumber, IsStubbed, Names}
use Rattle.cfm_stubs.specs.Stubs.{exports_from, numbered}
use Rattle.cfm_stubs.specs.Symbols.{Symbol, all_imports, are_named, imports_from, is_from, library_symbols, own_import, own_imports}
use Rattle.cfm_stubs.specs.Versions.{entries_in, entries_of, library_versions, own_entries, own_entry, versions_for}
use Rattle.cfm_stubs.proofs.ExactLemmas.{named_exactly}
use Rattle.cfm_stubs.proofs.FitLemmas.{versions_fit}
use Rattle.cfm_stubs.proofs.StubbedLemmas.{same_fragment}

-- what holds of each element of two lists
left-all : {A : Type 0} (P : A → Type 0) (xs ys : List A) → AllByRecursion P (xs ++ ys) → AllByRecursion P xs
left-all P [] ys all = tt
left-all P (x ∷ xs) ys all = (all.0, left-all P xs ys all.1)

right-all : {A : Type 0} (P : A → Type 0) (xs ys : List A) → AllByRecursion P (xs ++ ys) → AllByRecursion P ys
right-all P [] ys all = all
right-all P (x ∷ xs) ys all = right-all P xs ys all.1

-- entry k is one of the entries with its name
entry-of : (P : Library → Type 0) (l : Loaded) (name : List ℕ) (from n k : ℕ) (x : Library) → from ≤ k → k < from + n → library_of l k ≡ Some x → bytes_eq x.name name ≡ true → AllByRecursion P (own_entries l name from n) → P x
entry-of P l name from zero k x low high there same all = absurd (omega arith)
entry-of P l name from (suc n) k x low high there same all =
    elim (eqb_tells from k) [
      | inl here ↦ (let own : library_of l from ≡ Some x = ap (library_of l) here.1 ∙ there in own-of (left-all P (own_entry name (library_of l from)) (own_entries l name (from + 1) n) all) own)
      | inr other ↦ (let apart = other.1 in entry-of P l name (from + 1) n k x (omega arith) (omega arith) there same (right-all P (own_entry name (library_of l from)) (own_entries l name (from + 1) n) all))
    ]
  where
    own-of : AllByRecursion P (own_entry name (library_of l from)) → library_of l from ≡ Some x → P x
    own-of all own =
        let Q : List Library → Type 0 = λ es. AllByRecursion P es in
        let at : AllByRecursion P (own_entry name (Some x)) = subst Q (ap (own_entry name) own) all in
        let one : AllByRecursion P (x ∷ []) = subst Q (ap (λ b. if b then x ∷ [] else []) same) at in
        one.0

entry-among : (P : Library → Type 0) (loaders : List Loaded) (i : ℕ) (l : Loaded) (name : List ℕ) (k : ℕ) (x : Library) → slice_get loaders i ≡ Some l → k < l.header.library_count → library_of l k ≡ Some x → bytes_eq x.name name ≡ true
    → AllByRecursion P (entries_of loaders name) → P x
entry-among P [] i l name k x among below there same all = absurd (cc)
entry-among P (m ∷ loaders) zero l name k x among below there same all =
    let is : m ≡ l = cc in
    let here = left-all P (entries_in name m) (entries_of loaders name) all in
    let Q : Loaded → Type 0 = λ l. AllByRecursion P (entries_in name l) in
    entry-of P l name 0 l.header.library_count k x (omega arith) (omega arith) there same (subst Q is here)
entry-among P (m ∷ loaders) (suc i) l name k x among below there same all = entry-among P loaders i l name k x among below there same (right-all P (entries_in name m) (entries_of loaders name) all)

-- only entries and imports that exist are there
met_if : {A : Type 0} (b : Bool) (o : Option A) (x : A) → cond b o None ≡ Some x → b ≡ true
met_if true o x is = refl
met_if false o x is = absurd (cc)

-- the exports have the numbers of their names
record IsThere (value step : ℕ) (symbols : List Symbol) (name : List ℕ) : Type 0 where
  index : ℕ
  export : Export
  there : slice_get (exports_from value step symbols) index ≡ Some export
  is : export.name ≡ name
  number : value_of export.fields.section export.fields.value ≡ Absolute (number_in value step symbols name)

number-there : (value step : ℕ) (symbols : List Symbol) (name : List ℕ) → are_named symbols name ≡ true → IsThere value step symbols name
number-there value step [] name is = absurd (cc)
number-there value step (s ∷ symbols) name is = by (bytes_eq name s.name) refl is (λ others. number-there (value + step) step symbols name others)
  where
    by : (b : Bool) → bytes_eq name s.name ≡ b → (b || are_named symbols name) ≡ true → (are_named symbols name ≡ true → IsThere (value + step) step symbols name) → IsThere value step (s ∷ symbols) name
    by true same is deeper = record {
      index = 0;
      export = numbered value s;
      there = refl;
      is = sym ((bytes_eq-Decides name s.name).0 same);
      number = ap (λ b. Absolute (if b then value else number_in (value + step) step symbols name)) (sym same);
    }
    by false other is deeper =
        let later = deeper is in
        record {
          index = suc later.index;
          export = later.export;
          there = later.there;
          is = later.is;
          number = later.number ∙ ap (λ b. Absolute (if b then value else number_in (value + step) step symbols name)) (sym other);
        }

-- an import is one of the imports from its library

any-true : (a b : Bool) → b ≡ true → (a || b) ≡ true
any-true true b is = refl
any-true false b is = is

import-of : (l : Loaded) (library : List ℕ) (from n j : ℕ) (i : Import) → from ≤ j → j < from + n → import_of l j ≡ Some i → is_from l library i ≡ true → list_any (λ (x : Import). bytes_eq i.name x.name) (own_imports l library from n) ≡ true
import-of l library from zero j i low high there own = absurd (omega arith)
import-of l library from (suc n) j i low high there own =
    list_any-append is_it (own_import l library (import_of l from)) (own_imports l library (from + 1) n)
    ∙ elim (eqb_tells from j) [
      | inl here ↦ ap (λ b. b || list_any is_it (own_imports l library (from + 1) n)) (ap (λ o. list_any is_it (own_import l library o)) (ap (import_of l) here.1 ∙ there) ∙ ap (λ b. list_any is_it (if b then i ∷ [] else [])) own ∙ ap (λ b. b || false) ((bytes_eq-Decides i.name i.name).1 refl))
      | inr other ↦ (let apart = other.1 in any-true (list_any is_it (own_import l library (import_of l from))) (list_any is_it (own_imports l library (from + 1) n)) (import-of l library (from + 1) n j i (omega arith) (omega arith) there own))
    ]
  where
    is_it : Import → Bool
    is_it x = bytes_eq i.name x.name

import-among : (loaders : List Loaded) (at : ℕ) (l : Loaded) (library : List ℕ) (j : ℕ) (i : Import) → slice_get loaders at ≡ Some l → j < l.header.import_count → import_of l j ≡ Some i → is_from l library i ≡ true
    → list_any (λ (x : Import). bytes_eq i.name x.name) (flat_map (imports_from library) loaders) ≡ true
import-among [] at l library j i among below there own = absurd (cc)
import-among (m ∷ loaders) zero l library j i among below there own =
    let is : m ≡ l = cc in
    list_any-append (λ (x : Import). bytes_eq i.name x.name) (imports_from library m) (flat_map (imports_from library) loaders)
    ∙ ap (λ b. b || list_any (λ (x : Import). bytes_eq i.name x.name) (flat_map (imports_from library) loaders))
    (ap (λ (l : Loaded). list_any (λ (x : Import). bytes_eq i.name x.name) (imports_from library l)) is ∙ import-of l library 0 l.header.import_count j i (omega arith) (omega arith) there own)
import-among (m ∷ loaders) (suc at) l library j i among below there own =
    list_any-append (λ (x : Import). bytes_eq i.name x.name) (imports_from library m) (flat_map (imports_from library) loaders)
    ∙ any-true (list_any (λ (x : Import). bytes_eq i.name x.name) (imports_from library m)) (list_any (λ (x : Import). bytes_eq i.name x.name) (flat_map (imports_from library) loaders)) (import-among loaders at l library j i among below there own)

pub library-below : (l : Loaded) (k : ℕ) (x : Library) → library_of l k ≡ Some x → k < l.header.library_count
unfolding library_of library_in
library-below l k x is = ltb-true k l.header.library_count (met_if (nat_lt k l.header.library_count) _ x is)

import-below : (l : Loaded) (j : ℕ) (i : Import) → import_of l j ≡ Some i → j < l.header.import_count
unfolding import_of import_in
import-below l j i is = ltb-true j l.header.import_count (met_if (nat_lt j l.header.import_count) _ i is)

-- an export with its index
abbrev with_index : Loaded → Option ℕ → Option (ℕ × Export)
with_index l o = option_and_then (λ e. option_map (λ x. (e, x)) (export_of l e)) o

-- what is found by its name is an export of that name
exported-named : (l : Loaded) (name : List ℕ) (x : Export) → option_and_then (export_of l) (named_of l name) ≡ Some x → (e : ℕ) × (exported name l ≡ Some (e, x))
exported-named l name x is = by (named_of l name) is
  where
    by : (o : Option ℕ) → option_and_then (export_of l) o ≡ Some x → (e : ℕ) × (with_index l o ≡ Some (e, x))
    by None is = absurd (cc)
    by (Some e) is = (let f : Export → ℕ × Export = λ x. (e, x) in (e, ap (option_map f) is))

module _ (pairs : List Pair) (loaders : List Loaded) (stub : ℕ → Bool) (first : ℕ → ℕ) (step : ℕ) (made : HasMade pairs loaders stub first step) where
  -- the number of a symbol of a stub
  abbrev pub number_of : ℕ → List ℕ → ℕ
  number_of q name = number_in (first q) step (library_symbols loaders (pair_of pairs q).name) name

  own_name : (p k q : ℕ) (n : Names pairs p k q) → bytes_eq n.library.name (pair_of pairs q).name ≡ true
  own_name p k q n = (bytes_eq-Decides n.library.name (pair_of pairs q).name).1 (sym (place_of-named pairs n.library.name q n.place))

  made_fits : (q : ℕ) (is : IsMade pairs loaders (first q) step q) (p k : ℕ) (n : Names pairs p k q) → fit_with n.library is.fragment ≡ Fits
  unfolding library_versions
  made_fits q is p k n =
      let name = (pair_of pairs q).name in
      let among = made.among p k n.fragment n.library n.read n.entry in
      let v = versions_for (entries_of loaders name) in
      let P : Library → Type 0 = λ l. fit_of (definition_of l) (implementation v) ≡ Fits in
      let fits = entry-among P loaders among.index n.fragment.loader name k n.library among.there (library-below n.fragment.loader k n.library n.entry) n.entry (own_name p k q n) (versions_fit (entries_of loaders name)) in
      let i : ℕ → ℕ → Implementation = λ c o. record { current = c; old_def = o } in
      ap (fit_of (definition_of n.library)) (ap₂ i is.current is.old_def) ∙ fits

  made_exports : (q : ℕ) (is : IsMade pairs loaders (first q) step q) (p j : ℕ) (f : Fragment) (i : Import) → fragment_of pairs p ≡ Ok f → import_of f.loader j ≡ Some i → Names pairs p i.library q → IsNumber is.fragment.loader i.name (number_of q i.name)
  unfolding library_symbols
  made_exports q is p j f i read there n =
      let name = (pair_of pairs q).name in
      let same : n.fragment ≡ f = same_fragment n.fragment f (fragment_of pairs p) n.read read in
      let entry : library_of f.loader i.library ≡ Some n.library = ap (λ (f : Fragment). library_of f.loader i.library) (sym same) ∙ n.entry in
      let among = made.among p i.library f n.library read entry in
      let own : is_from f.loader name i ≡ true = ap (λ (o : Option Library). option_map_or (λ entry. bytes_eq entry.name name) o false) entry ∙ own_name p i.library q n in
      let any = import-among loaders among.index f.loader name j i among.there (import-below f.loader j i there) there own in
      let it = number-there (first q) step (library_symbols loaders name) i.name (named_exactly (all_imports loaders name) i.name ∙ any) in
      let found = exported-named is.fragment.loader i.name it.export (ap (λ name. option_and_then (export_of is.fragment.loader) (named_of is.fragment.loader name)) (sym it.is) ∙ is.named it.index it.export it.there) in
      record { index = found.0; export = it.export; found = found.1; value = it.number }

  -- so the store is one with stubs
  pub made-stubbed : IsStubbed pairs stub number_of
  made-stubbed = record {
    read = made.read;
    found = made.found;
    stubs = λ q is. let it = made.stubs q is in record { fragment = it.fragment; read = it.read; fits = made_fits q it; exports = made_exports q it };
  }
