-- A store with the stubs of what it lacks is one with stubs.
use Rattle.std.proofs.Common.{◌≡◌, ◌∙◌, ℕ, zero, suc, ◌+◌, ◌-◌, ◌<◌, ◌≤◌, ◌||◌, Bool, true, false, List, [], ◌∷◌, ◌++◌, Option, None, Some, Ok, get_or, length, map, slice_get, inl, inr, refl, sym, ap, arith}
use Rattle.std.specs.Prelude.{◌⊎◌, ◌≢◌, Result, if◌then◌else◌, nat_le, nat_lt, option_map}
use Rattle.std.specs.List.{list_any}
use Rattle.std.specs.Option.{option_and_then, option_map_or, option_or}
use Rattle.std.specs.Result.{result_ok}
use Rattle.std.specs.Str.{bytes_eq}
use Rattle.std.proofs.lemmas.Bool.{and_parts, leb-true, ltb-true}
use Rattle.std.proofs.lemmas.Bool.Decides.{leb_tells}
use Rattle.std.proofs.lemmas.List.{get_or-append-add, get_or-map, get_or_append_left, get_or_past, length-append, length-map}
use Rattle.std.proofs.lemmas.Option.{slice_get-get_or}
use Rattle.pef_format.specs.Exports.{Export}
use Rattle.pef_format.specs.declared.export.ExportValue.TheVariants.{Absolute}
use Rattle.pef_loader.specs.Library.{Library}
use Rattle.pef_loader.specs.Loader.{Loaded, export_of, library_of, named_of}
use Rattle.pef_words.proofs.Laws.Lists.{all-get}
use Rattle.pef_views.specs.Container.{container_of}
use Rattle.pef_views.specs.Header.{header_of}
use Rattle.pef_words.specs.Bytes.{number_at}
use Rattle.pef_write.specs.ExportContainers.{HasExports}
use Rattle.cfm_store.specs.Stores.{Pair, is_named, no_pair, pair_of, place_from, place_of, shown}
use Rattle.cfm_closure.specs.Faults.{BindRefusal}
use Rattle.cfm_closure.specs.Fragments.{Fragment, fragment_of, with_container}
use Rattle.cfm_closure.specs.Promises.{AllRead}
use Rattle.cfm_stubs.specs.Added.{AreNumberStubs, added_number, exported_number, is_added, stub_pair, with_stubs}
use Rattle.cfm_stubs.specs.Lacking.{is_weak_entry, lacking_in, lacking_of, loaders_in, wanted}
use Rattle.cfm_stubs.specs.Made.{HasMade, IsAmong, IsMade, number_in}
use Rattle.cfm_stubs.specs.NumberStubs.{IsReadStub, MadeStub, number_after, number_exports, number_stub, number_stubs}
use Rattle.cfm_stubs.specs.Stubbed.{HasLibrary, IsStubbed}
use Rattle.cfm_stubs.specs.Stubs.{exports_from}
use Rattle.cfm_stubs.specs.Symbols.{Symbol, library_symbols}
use Rattle.cfm_stubs.specs.Versions.{library_versions}
use Rattle.cfm_stubs.proofs.FittingLemmas.{own_names-apart}
use Rattle.cfm_stubs.proofs.LackingLemmas.{lacking-row, loaders-among, row-wanted}
use Rattle.cfm_stubs.proofs.MadeLemmas.{library-below, made-stubbed}
use Rattle.cfm_stubs.proofs.ReadLemmas.{read-fragment}
use Rattle.cfm_stubs.proofs.StubbedLemmas.{same_fragment}

-- pairs before others stay in their places
pair-left : (xs ys : List Pair) (p : ℕ) → p < length xs → pair_of (xs ++ ys) p ≡ pair_of xs p
pair-left xs ys p under = ap shown (get_or_append_left xs ys no_pair p under)

fragment-same : (a b : List Pair) (p : ℕ) → pair_of a p ≡ pair_of b p → fragment_of a p ≡ fragment_of b p
unfolding fragment_of
fragment-same a b p same = ap (λ (x : Pair). with_container x.name (container_of x.bytes)) same

-- a place past the last one has no fragment
none-contained : (f : Fragment) → with_container [] (container_of []) ≡ Ok f → ⊥
unfolding container_of header_of number_at
none-contained f is = absurd (cc)

past-unread : (pairs : List Pair) (p : ℕ) (f : Fragment) → length pairs ≤ p → fragment_of pairs p ≡ Ok f → ⊥
unfolding fragment_of
past-unread pairs p f past is =
    let none : pair_of pairs p ≡ no_pair = ap shown (get_or_past pairs p no_pair past) in
    none-contained f (sym (ap (λ (x : Pair). with_container x.name (container_of x.bytes)) none) ∙ is)

-- a name that some pairs don't have is that of a pair after them

first-append : (at : ℕ) (xs ys : List Pair) (name : List ℕ) → place_from at (xs ++ ys) name ≡ option_or (place_from at xs name) (place_from (at + length xs) ys name)
first-append at [] ys name = let e : at ≡ at + 0 = omega arith in ap (λ n. place_from n ys name) e
first-append at (x ∷ xs) ys name = by (is_named x name) (first-append (at + 1) xs ys name)
  where
    by : (here : Bool) → place_from (at + 1) (xs ++ ys) name ≡ option_or (place_from (at + 1) xs name) (place_from (at + 1 + length xs) ys name) → (if here then Some at else place_from (at + 1) (xs ++ ys) name) ≡ option_or (if here then Some at else place_from (at + 1) xs name) (place_from (at + suc (length xs)) ys name)
    by true later = refl
    by false later = (let e : at + 1 + length xs ≡ at + suc (length xs) = omega arith in
        later ∙ ap (λ n. option_or (place_from (at + 1) xs name) (place_from n ys name)) e)

place-left : (xs ys : List Pair) (name : List ℕ) (q : ℕ) → place_of xs name ≡ Some q → place_of (xs ++ ys) name ≡ Some q
unfolding place_of
place-left xs ys name q is = first-append 0 xs ys name ∙ ap (λ o. option_or o (place_from (0 + length xs) ys name)) is

place-right : (xs ys : List Pair) (name : List ℕ) (q : ℕ) → place_of xs name ≡ None → place_from (0 + length xs) ys name ≡ Some q → place_of (xs ++ ys) name ≡ Some q
unfolding place_of
place-right xs ys name q none is = first-append 0 xs ys name ∙ ap (λ o. option_or o (place_from (0 + length xs) ys name)) none ∙ is

-- a stub with a name is found by it
stub-found : (at : ℕ) (made : List MadeStub) (name : List ℕ) → list_any (λ other. bytes_eq name other) (map (λ s. s.name) made) ≡ true → (q : ℕ) × (place_from at (map stub_pair made) name ≡ Some q)
stub-found at [] name any = absurd (cc)
stub-found at (s ∷ made) name any = by (bytes_eq name s.name) any (stub-found (at + 1) made name)
  where
    by : (here : Bool) → (here || list_any (λ other. bytes_eq name other) (map (λ s. s.name) made)) ≡ true → (list_any (λ other. bytes_eq name other) (map (λ s. s.name) made) ≡ true → (q : ℕ) × (place_from (at + 1) (map stub_pair made) name ≡ Some q)) → (q : ℕ) × ((if here then Some at else place_from (at + 1) (map stub_pair made) name) ≡ Some q)
    by true is later = (at, refl)
    by false is later = later is

-- the stubs of numbers, one by one
module _ (loaders : List Loaded) (step : ℕ) where
  abbrev pub firsts : ℕ → List (List ℕ) → ℕ → ℕ
  firsts first [] k = first
  firsts first (x ∷ names) zero = first
  firsts first (x ∷ names) (suc k) = firsts (number_after loaders first step x) names k

  stub-names : (first : ℕ) (names : List (List ℕ)) → map (λ s. s.name) (number_stubs loaders first step names) ≡ names
  unfolding number_stubs number_stub
  stub-names first [] = refl
  stub-names first (x ∷ names) = ap (λ rest. x ∷ rest) (stub-names (number_after loaders first step x) names)

  -- stub k has the number of its first symbol
  record IsOne (first : ℕ) (names : List (List ℕ)) (k : ℕ) (s : MadeStub) : Type 0 where
    name : List ℕ
    is : s ≡ number_stub loaders (firsts first names k) step name

  stub-at : (first : ℕ) (names : List (List ℕ)) (k : ℕ) (s : MadeStub) → slice_get (number_stubs loaders first step names) k ≡ Some s → IsOne first names k s
  unfolding number_stubs
  stub-at first [] k s there = absurd (cc)
  stub-at first (x ∷ names) zero s there = let same : number_stub loaders first step x ≡ s = cc in record { name = x; is = sym same }
  stub-at first (x ∷ names) (suc k) s there = let later = stub-at (number_after loaders first step x) names k s there in record { name = later.name; is = later.is }

-- the number of a name is that of its export
number-exported : (value step : ℕ) (symbols : List Symbol) (name : List ℕ) → number_in value step symbols name ≡ exported_number (exports_from value step symbols) name
number-exported value step [] name = refl
number-exported value step (s ∷ symbols) name = ap (λ n. if bytes_eq name s.name then value else n) (number-exported (value + step) step symbols name)

module _ (pairs : List Pair) (first step : ℕ) (weak : Bool) (made : List MadeStub) (readable : AllRead pairs) (are : AreNumberStubs pairs first step weak made) where
  abbrev loaders : List Loaded
  loaders = loaders_in pairs

  abbrev names : List (List ℕ)
  names = wanted weak (lacking_in pairs)

  abbrev all : List Pair
  all = with_stubs pairs made

  abbrev first_at : ℕ → ℕ
  first_at q = firsts loaders step first names (q - length pairs)

  length-all : length all ≡ length pairs + length made
  length-all = length-append pairs (map stub_pair made) ∙ ap (λ n. length pairs + n) (length-map made stub_pair)

  -- a fragment that was there is read as before
  own-fragment : (p : ℕ) → p < length pairs → fragment_of all p ≡ fragment_of pairs p
  own-fragment p under = fragment-same all pairs p (pair-left pairs (map stub_pair made) p under)

  -- the stub in a place
  record IsAt (q : ℕ) : Type 0 where
    stub : MadeStub
    there : slice_get made (q - length pairs) ≡ Some stub
    pair : pair_of all q ≡ stub_pair stub
    one : IsOne loaders step first names (q - length pairs) stub

  at-place : (q : ℕ) → length pairs ≤ q → q < length pairs + length made → IsAt q
  at-place q low high =
      let k = q - length pairs in
      let under : k < length made = omega (arith, low, high) in
      let whole : length pairs + k ≡ q = omega (arith, low) in
      let none : MadeStub = record { name = []; exports = []; bytes = [] } in
      let s = get_or made k none in
      let there : slice_get made k ≡ Some s = slice_get-get_or made k none under in
      let mapped : get_or (map stub_pair made) k no_pair ≡ stub_pair s = get_or-map stub_pair made k none no_pair under in
      record {
        stub = s;
        there = there;
        pair = ap (λ n. shown (get_or all n no_pair)) (sym whole) ∙ ap shown (get_or-append-add pairs (map stub_pair made) k no_pair ∙ mapped);
        one = stub-at loaders step first names k s (ap (λ (m : List MadeStub). slice_get m k) (sym are.are) ∙ there);
      }

  -- .. is read with its exports
  record IsRead (q : ℕ) (at : IsAt q) : Type 0 where
    back : HasExports (library_versions loaders at.stub.name) at.stub.exports at.stub.bytes
    fragment : Fragment
    read : fragment_of all q ≡ Ok fragment
    loader : fragment.loader ≡ back.loader
    header : fragment.container.header ≡ back.container.header

  read-at : (q : ℕ) (at : IsAt q) → IsRead q at
  read-at q at =
      let back = all-get (IsReadStub loaders) made (q - length pairs) at.stub are.each at.there in
      record {
        back = back;
        fragment = record { name = (pair_of all q).name; container = back.container; loader = back.loader };
        read = read-fragment all q back.container back.loader (ap (λ (x : Pair). container_of x.bytes) at.pair ∙ back.read) back.loaded;
        loader = refl;
        header = refl;
      }

  all-read : AllRead all
  all-read p inside =
      elim (leb_tells (length pairs) p) [
        | inl low ↦ (let at = at-place p low.1 (omega (arith, inside, length-all)) in let r = read-at p at in (r.fragment, r.read))
        | inr under ↦ (let f = readable p under.1 in (f.0, own-fragment p under.1 ∙ f.1))
      ]

  -- only the fragments that were there have entries
  no-entries : (l : Loaded) (k : ℕ) (x : Library) → l.header.library_count ≡ 0 → library_of l k ≡ Some x → ⊥
  no-entries l k x none there = let under = library-below l k x there in absurd (omega (arith, under, none))

  own-entry : (p k : ℕ) (f : Fragment) (x : Library) → fragment_of all p ≡ Ok f → library_of f.loader k ≡ Some x → p < length pairs
  own-entry p k f x read there =
      elim (leb_tells (length pairs) p) [
        | inl low ↦ absurd (past p k f x low.1 read there)
        | inr under ↦ under.1
      ]
    where
      past : (p k : ℕ) (f : Fragment) (x : Library) → length pairs ≤ p → fragment_of all p ≡ Ok f → library_of f.loader k ≡ Some x → ⊥
      past p k f x low read there =
          elim (leb_tells (length pairs + length made) p) [
            | inl behind ↦ past-unread all p f (omega (arith, behind.1, length-all)) read
            | inr under ↦ (
                let at = at-place p low under.1 in
                let r = read-at p at in
                let same : r.fragment ≡ f = same_fragment r.fragment f (fragment_of all p) r.read read in
                let loader : r.back.loader ≡ f.loader = sym r.loader ∙ ap (λ (f : Fragment). f.loader) same in
                no-entries f.loader k x (ap (λ (l : Loaded). l.header.library_count) (sym loader) ∙ r.back.library_count) there)
          ]

  among : (p k : ℕ) (f : Fragment) (x : Library) → fragment_of all p ≡ Ok f → library_of f.loader k ≡ Some x → IsAmong loaders f.loader
  unfolding loaders_in
  among p k f x read there =
      let under = own-entry p k f x read there in
      loaders-among pairs p f.loader under (ap (λ (r : Result Fragment BindRefusal). option_map (λ f. f.loader) (result_ok r)) (sym (own-fragment p under) ∙ read))

  found : (p k : ℕ) (f : Fragment) (x : Library) → fragment_of all p ≡ Ok f → library_of f.loader k ≡ Some x → HasLibrary all x
  unfolding lacking_in
  found p k f x read there = by (place_of pairs x.name) refl
    where
      row : place_of pairs x.name ≡ None → (list_any (λ name. bytes_eq x.name name) names ≡ true) ⊎ (is_weak_entry x ≡ true)
      row none = row-wanted weak x (lacking_of pairs loaders) (lacking-row pairs loaders f.loader k x (among p k f x read there) (library-below f.loader k x there) there none)

      named : list_any (λ name. bytes_eq x.name name) names ≡ true → list_any (λ name. bytes_eq x.name name) (map (λ s. s.name) made) ≡ true
      named any = ap (λ (m : List MadeStub). list_any (λ name. bytes_eq x.name name) (map (λ s. s.name) m)) are.are ∙ ap (list_any (λ name. bytes_eq x.name name)) (stub-names loaders step first names) ∙ any

      by : (o : Option ℕ) → place_of pairs x.name ≡ o → HasLibrary all x
      by (Some q) is = inl (q, place-left pairs (map stub_pair made) x.name q is)
      by None is = elim (row is) [
        | inl any ↦ (let it = stub-found (0 + length pairs) made x.name (named any) in inl (it.0, place-right pairs (map stub_pair made) x.name it.0 is it.1))
        | inr own ↦ inr own
      ]

  -- each of them was made for these loader sections
  exports-are : (q : ℕ) (at : IsAt q) → at.stub.exports ≡ number_exports loaders (first_at q) step at.stub.name
  unfolding number_stub
  exports-are q at = ap (λ (s : MadeStub). s.exports) at.one.is ∙ ap (λ (s : MadeStub). number_exports loaders (first_at q) step s.name) (sym at.one.is)

  made-at : (q : ℕ) → is_added pairs made q ≡ true → IsMade all loaders (first_at q) step q
  made-at q is =
      let parts = and_parts (nat_le (length pairs) q) (nat_lt q (length pairs + length made)) is in
      let at = at-place q (leb-true (length pairs) q parts.0) (ltb-true q (length pairs + length made) parts.1) in
      let r = read-at q at in
      let back = r.back in
      let name : at.stub.name ≡ (pair_of all q).name = sym (ap (λ (x : Pair). x.name) at.pair) in
      record {
        fragment = r.fragment;
        read = r.read;
        current = ap (λ h. h.current_version) (r.header ∙ back.header) ∙ ap (λ n. (library_versions loaders n).current) name;
        old_def = ap (λ h. h.old_def_version) (r.header ∙ back.header) ∙ ap (λ n. (library_versions loaders n).old_def) name;
        named = λ k x there. (
            let numbered : slice_get (number_exports loaders (first_at q) step at.stub.name) k ≡ Some x = ap (λ n. slice_get (number_exports loaders (first_at q) step n) k) name ∙ there in
            let own : slice_get at.stub.exports k ≡ Some x = ap (λ (es : List Export). slice_get es k) (exports-are q at) ∙ numbered in
            let apart : (j : ℕ) (y : Export) → j < k → slice_get at.stub.exports j ≡ Some y → y.name ≢ x.name = λ j y under here. own_names-apart loaders (first_at q) step at.stub.name k x numbered j y under (ap (λ (es : List Export). slice_get es j) (sym (exports-are q at)) ∙ here) in
            ap (λ (l : Loaded). option_and_then (export_of l) (named_of l x.name)) r.loader ∙ ap (option_and_then (export_of back.loader)) (back.named k x own apart) ∙ back.rows k ∙ own);
      }

  -- so the store is one with stubs, with the numbers of their exports
  has-made : HasMade all loaders (is_added pairs made) first_at step
  has-made = record { read = all-read; among = among; found = found; stubs = made-at }

  number-is : (q : ℕ) (name : List ℕ) → is_added pairs made q ≡ true → number_in (first_at q) step (library_symbols loaders (pair_of all q).name) name ≡ added_number pairs made q name
  unfolding number_stub
  number-is q name is =
      let parts = and_parts (nat_le (length pairs) q) (nat_lt q (length pairs + length made)) is in
      let at = at-place q (leb-true (length pairs) q parts.0) (ltb-true q (length pairs + length made) parts.1) in
      ap (λ (x : Pair). number_in (first_at q) step (library_symbols loaders x.name) name) at.pair
      ∙ ap (λ (s : MadeStub). number_in (first_at q) step (library_symbols loaders s.name) name) at.one.is
      ∙ number-exported (first_at q) step (library_symbols loaders at.one.name) name
      ∙ ap (λ (s : MadeStub). exported_number s.exports name) (sym at.one.is)
      ∙ ap (λ (o : Option MadeStub). option_map_or (λ s. exported_number s.exports name) o 0) (sym at.there)

  pub added-stubbed : IsStubbed all (is_added pairs made) (added_number pairs made)
  added-stubbed =
      let it = made-stubbed all loaders (is_added pairs made) first_at step has-made in
      record {
        read = it.read;
        found = it.found;
        stubs = λ q is. let own = it.stubs q is in record {
          fragment = own.fragment;
          read = own.read;
          fits = own.fits;
          exports = λ p j f i read there names. let x = own.exports p j f i read there names in record {
            index = x.index;
            export = x.export;
            found = x.found;
            value = x.value ∙ ap Absolute (number-is q i.name is);
          };
        };
      }

  -- each pair after the first ones is such a stub
  pub stub-read : (q : ℕ) → length pairs ≤ q → q < length all → (stub : MadeStub) × (pair_of all q ≡ stub_pair stub) × IsReadStub loaders stub
  stub-read q low high =
      let at = at-place q low (omega (arith, high, length-all)) in
      (at.stub, at.pair, (read-at q at).back)
