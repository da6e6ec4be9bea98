-- The exports of a stub are some that a container can have, and no two have one name.
use Rattle.std.proofs.Common.{◌≡◌, ◌∙◌, ℕ, zero, suc, ◌+◌, ◌/◌, ◌%◌, ◌^◌, ◌<◌, ◌==◌, ◌||◌, Bool, true, false, cond, List, [], ◌∷◌, ◌++◌, Option, None, Some, length, slice_get, inl, inr, refl, sym, ap, subst, arith}
use Rattle.std.specs.Prelude.{◌⊎◌, ◌≢◌, fold, if◌then◌else◌, nat_le, nat_lt}
use Rattle.std.specs.List.{AllByRecursion, flat_map, list_any, sum_by}
use Rattle.std.specs.Str.{bytes_eq}
use Rattle.std.proofs.lemmas.Bool.{leb-false}
use Rattle.std.proofs.lemmas.List.Sums.{sum_by-cons}
use Rattle.std.proofs.lemmas.Slice.Eq.{bytes_eq-Decides}
use Rattle.pef_format.specs.Exports.{Export}
use Rattle.pef_format.specs.Symbols.{Import}
use Rattle.pef_loader.specs.Import.{ImportEntry, import_at, import_in, owner_of}
use Rattle.pef_loader.specs.Header.{import_place}
use Rattle.pef_loader.specs.Loader.{Loaded, import_of}
use Rattle.pef_loader.specs.declared.header.LoaderHeader.{LoaderHeader}
use Rattle.pef_words.specs.Bytes.{name_at, number_at}
use Rattle.pef_words.specs.Refusals.{◌>>=◌, first_met}
use Rattle.pef_words.proofs.Laws.Lists.{all-append}
use Rattle.pef_words.proofs.Laws.Refusals.{first_unmet, neither}
use Rattle.pef_write.specs.ExportContainers.{NumberFits, NumbersFit}
use Rattle.cfm_stubs.specs.declared.fault.StubFault.TheVariants as fault
use Rattle.cfm_stubs.specs.NumberStubs.{number_exports, number_refusal}
use Rattle.cfm_stubs.specs.Stubs.{exports_from, is_large, is_long, large_number, numbered, stub_refusal, symbol_tests}
use Rattle.cfm_stubs.specs.Symbols.{HaveOwnNames, Symbol, all_imports, are_named, imports_from, is_from, library_symbols, own_import, own_imports, with_symbol}
use Rattle.cfm_stubs.proofs.ExactLemmas.{own_names}
use Rattle.cfm_stubs.proofs.FoldLemmas.{fold-append}

-- the classes of symbols have four bits, as those of imports

inner_if : {A : Type 0} (b : Bool) (o : Option A) (x : A) → cond b o None ≡ Some x → o ≡ Some x
inner_if true o x is = is
inner_if false o x is = absurd (cc)

bound-some : {A B : Type 0} (o : Option A) (f : A → Option B) (y : B) → (o >>= f) ≡ Some y → (x : A) × (f x ≡ Some y) × (o ≡ Some x)
bound-some None f y is = absurd (cc)
bound-some (Some x) f y is = (x, is, refl)

entry-class : (bytes : List ℕ) (h : LoaderHeader) (j : ℕ) (e : ImportEntry) → import_at bytes h j ≡ Some e → e.fields.class < 16
unfolding import_at
entry-class bytes h j e is =
    let entry : ℕ → ImportEntry = λ word. record { fields = record { class = word / 2 ^ 24 % 16; weak = word / 2 ^ 31 == 1 }; name = word % 2 ^ 24 } in
    let word = bound-some (number_at 4 bytes (import_place h j)) (λ word. Some (entry word)) e is in
    let same : entry word.0 ≡ e = cc (word.1) in
    let P : ImportEntry → Type 0 = λ e. e.fields.class < 16 in
    let small : word.0 / 2 ^ 24 % 16 < 16 = omega arith in
    subst P same small

import-class : (l : Loaded) (j : ℕ) (i : Import) → import_of l j ≡ Some i → i.fields.class < 16
unfolding import_of import_in
import-class l j i is =
    let bytes = l.bytes in
    let h = l.header in
    let named : ImportEntry → List ℕ → ℕ → Import = λ e name owner. record { fields = e.fields; name = name; library = owner } in
    let there = inner_if (nat_lt j h.import_count) _ i is in
    let e = bound-some (import_at bytes h j) (λ e. name_at bytes (h.strings_offset + e.name) >>= (λ name. owner_of bytes h j >>= (λ owner. Some (named e name owner)))) i there in
    let name = bound-some (name_at bytes (h.strings_offset + e.0.name)) (λ name. owner_of bytes h j >>= (λ owner. Some (named e.0 name owner))) i e.1 in
    let owner = bound-some (owner_of bytes h j) (λ owner. Some (named e.0 name.0 owner)) i name.1 in
    let same : named e.0 name.0 owner.0 ≡ i = cc (owner.1) in
    let P : Import → Type 0 = λ i. i.fields.class < 16 in
    subst P same (entry-class bytes h j e.0 e.2)

abbrev is_small : Symbol → Type 0
is_small s = s.class < 16

abbrev are_small : List Symbol → Type 0
are_small symbols = AllByRecursion is_small symbols

small-with : (symbols : List Symbol) (i : Import) → are_small symbols → i.fields.class < 16 → are_small (with_symbol symbols i)
small-with symbols i small own = by (are_named symbols i.name)
  where
    by : (there : Bool) → are_small (if there then symbols else symbols ++ (record { name = i.name; class = i.fields.class }) ∷ [])
    by true = small
    by false = all-append is_small symbols ((record { name = i.name; class = i.fields.class }) ∷ []) small (own, tt)

small-own : (l : Loaded) (library : List ℕ) (j : ℕ) (symbols : List Symbol) → are_small symbols → (o : Option Import) → import_of l j ≡ o → are_small (fold with_symbol symbols (own_import l library o))
small-own l library j symbols small None there = small
small-own l library j symbols small (Some i) there = by (is_from l library i)
  where
    by : (own : Bool) → are_small (fold with_symbol symbols (if own then i ∷ [] else []))
    by true = small-with symbols i small (import-class l j i there)
    by false = small

small-imports : (l : Loaded) (library : List ℕ) (j n : ℕ) (symbols : List Symbol) → are_small symbols → are_small (fold with_symbol symbols (own_imports l library j n))
small-imports l library j zero symbols small = small
small-imports l library j (suc n) symbols small =
    subst are_small (sym (fold-append with_symbol symbols (own_import l library (import_of l j)) (own_imports l library (j + 1) n)))
    (small-imports l library (j + 1) n (fold with_symbol symbols (own_import l library (import_of l j))) (small-own l library j symbols small (import_of l j) refl))

small-all : (loaders : List Loaded) (library : List ℕ) (symbols : List Symbol) → are_small symbols → are_small (fold with_symbol symbols (flat_map (imports_from library) loaders))
small-all [] library symbols small = small
small-all (l ∷ loaders) library symbols small =
    subst are_small (sym (fold-append with_symbol symbols (imports_from library l) (flat_map (imports_from library) loaders)))
    (small-all loaders library (fold with_symbol symbols (imports_from library l)) (small-imports l library 0 l.header.import_count symbols small))

classes-small : (loaders : List Loaded) (library : List ℕ) → are_small (library_symbols loaders library)
unfolding library_symbols
classes-small loaders library = small-all loaders library [] tt

-- exports that are numbered fit if their symbols do

apart-false : (a b : Bool) → (a || b) ≡ false → (a ≡ false) × (b ≡ false)
apart-false true b is = absurd (cc)
apart-false false b is = (refl, is)

each-fits : (first step : ℕ) (symbols : List Symbol) → are_small symbols → list_any is_long symbols ≡ false → list_any is_large (exports_from first step symbols) ≡ false → AllByRecursion NumberFits (exports_from first step symbols)
each-fits first step [] small short low = tt
each-fits first step (s ∷ symbols) small short low =
    let name = apart-false (is_long s) (list_any is_long symbols) short in
    let value = apart-false (is_large (numbered first s)) (list_any is_large (exports_from (first + step) step symbols)) low in (
      record { name = leb-false (2 ^ 16) (length s.name) name.0; class = small.0; section = refl; value = leb-false (2 ^ 32) first value.0 },
      each-fits (first + step) step symbols small.1 name.1 value.1,
    )

pub length-exports : (first step : ℕ) (symbols : List Symbol) → length (exports_from first step symbols) ≡ length symbols
length-exports first step [] = refl
length-exports first step (s ∷ symbols) = ap suc (length-exports (first + step) step symbols)

names-exports : (first step : ℕ) (symbols : List Symbol) → sum_by (λ (e : Export). length e.name) (exports_from first step symbols) ≡ sum_by (λ (s : Symbol). length s.name) symbols
names-exports first step [] = refl
names-exports first step (s ∷ symbols) =
    sum_by-cons (λ (e : Export). length e.name) (numbered first s) (exports_from (first + step) step symbols)
    ∙ ap (λ n. length s.name + n) (names-exports (first + step) step symbols)
    ∙ sym (sum_by-cons (λ (s : Symbol). length s.name) s symbols)

none-large : (exports : List Export) → large_number exports ≡ None → list_any is_large exports ≡ false
none-large exports none = by (list_any is_large exports) none
  where
    by : (b : Bool) → (if b then Some fault.PastLastNumber else None) ≡ None → b ≡ false
    by true is = absurd (cc)
    by false is = refl

pub numbers-fit : (first step : ℕ) (loaders : List Loaded) (library : List ℕ) → number_refusal loaders first step library ≡ None → NumbersFit (number_exports loaders first step library)
unfolding stub_refusal symbol_tests
numbers-fit first step loaders library none =
    let symbols = library_symbols loaders library in
    let parts = neither (first_met (symbol_tests symbols)) (large_number (exports_from first step symbols)) none in
    let count = first_unmet (nat_le (2 ^ 14) (length symbols)) fault.TooManySymbols _ parts.0 in
    let long = first_unmet (list_any is_long symbols) fault.LongName _ count.1 in
    let sum = first_unmet (nat_le (2 ^ 24) (sum_by (λ (s : Symbol). length s.name) symbols)) fault.TooManyNameBytes _ long.1 in
    let few = leb-false (2 ^ 14) (length symbols) count.0 in
    let short = leb-false (2 ^ 24) (sum_by (λ (s : Symbol). length s.name) symbols) sum.0 in
    record {
      count = omega (arith, few, length-exports first step symbols);
      each = each-fits first step symbols (classes-small loaders library) long.0 (none-large (exports_from first step symbols) parts.1);
      names = omega (arith, short, names-exports first step symbols);
    }

-- the number after those of a stub is small if there is a symbol
pub number-small : (first step : ℕ) (loaders : List Loaded) (library : List ℕ) → number_refusal loaders first step library ≡ None → (length (library_symbols loaders library) ≡ 0) ⊎ (first < 2 ^ 32)
unfolding stub_refusal
number-small first step loaders library none = by (library_symbols loaders library) (neither (first_met (symbol_tests (library_symbols loaders library))) (large_number (exports_from first step (library_symbols loaders library))) none).1
  where
    by : (symbols : List Symbol) → large_number (exports_from first step symbols) ≡ None → (length symbols ≡ 0) ⊎ (first < 2 ^ 32)
    by [] none = inl refl
    by (s ∷ symbols) none =
        let value = apart-false (is_large (numbered first s)) (list_any is_large (exports_from (first + step) step symbols)) (none-large (exports_from first step (s ∷ symbols)) none) in
        inr (leb-false (2 ^ 32) first value.0)

-- no two exports have one name

exported-named : (first step : ℕ) (symbols : List Symbol) (k : ℕ) (x : Export) → slice_get (exports_from first step symbols) k ≡ Some x → are_named symbols x.name ≡ true
exported-named first step [] k x there = absurd (cc)
exported-named first step (s ∷ symbols) zero x there =
    let same : numbered first s ≡ x = cc in
    let P : Export → Type 0 = λ x. are_named (s ∷ symbols) x.name ≡ true in
    subst P same (ap (λ b. b || are_named symbols s.name) ((bytes_eq-Decides s.name s.name).1 refl))
exported-named first step (s ∷ symbols) (suc k) x there = any (bytes_eq x.name s.name) (are_named symbols x.name) (exported-named (first + step) step symbols k x there)
  where
    any : (a b : Bool) → b ≡ true → (a || b) ≡ true
    any true b is = refl
    any false b is = is

names-apart : (first step : ℕ) (symbols : List Symbol) (j k : ℕ) (x y : Export) → HaveOwnNames symbols → j < k → slice_get (exports_from first step symbols) j ≡ Some y → slice_get (exports_from first step symbols) k ≡ Some x → y.name ≢ x.name
names-apart first step [] j k x y own under here there = absurd (cc)
names-apart first step (s ∷ symbols) zero zero x y own under here there = absurd (omega (arith, under))
names-apart first step (s ∷ symbols) (suc j) zero x y own under here there = absurd (omega (arith, under))
names-apart first step (s ∷ symbols) zero (suc k) x y own under here there = λ same. (
    let first_is : numbered first s ≡ y = cc in
    let name : s.name ≡ x.name = ap (λ (e : Export). e.name) first_is ∙ same in
    let clash = sym own.0 ∙ ap (are_named symbols) name ∙ exported-named (first + step) step symbols k x there in
    cc)
names-apart first step (s ∷ symbols) (suc j) (suc k) x y own under here there = names-apart (first + step) step symbols j k x y own.1 (omega (arith, under)) here there

have-own : (loaders : List Loaded) (library : List ℕ) → HaveOwnNames (library_symbols loaders library)
unfolding library_symbols
have-own loaders library = own_names (all_imports loaders library)

pub own_names-apart : (loaders : List Loaded) (first step : ℕ) (library : List ℕ) (k : ℕ) (x : Export) → slice_get (number_exports loaders first step library) k ≡ Some x → (j : ℕ) (y : Export) → j < k → slice_get (number_exports loaders first step library) j ≡ Some y → y.name ≢ x.name
own_names-apart loaders first step library k x there j y under here = names-apart first step (library_symbols loaders library) j k x y (have-own loaders library) under here there
