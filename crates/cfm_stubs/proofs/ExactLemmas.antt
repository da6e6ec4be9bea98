-- The symbols of imports are exactly their names, each once, and numbers tell them apart.
use Rattle.std.proofs.Common.{◌≡◌, ◌∙◌, ℕ, zero, suc, ◌+◌, ◌*◌, ◌≤◌, ◌||◌, Bool, true, false, List, [], ◌∷◌, ◌++◌, Some, length, slice_get, option_map, inl, inr, refl, sym, ap, arith}
use Rattle.std.specs.Prelude.{fold, if◌then◌else◌}
use Rattle.std.specs.List.{flat_map, list_any}
use Rattle.std.specs.Str.{bytes_eq}
use Rattle.std.proofs.Math.Bool.{or-false}
use Rattle.std.proofs.Math.Nat.{mul-le-mul_left}
use Rattle.std.proofs.lemmas.Bool.Decides.{leb_tells}
use Rattle.std.proofs.lemmas.Slice.Eq.{bytes_eq-Decides}
use Rattle.pef_format.specs.Symbols.{Import}
use Rattle.pef_loader.specs.Loader.{Loaded}
use Rattle.cfm_stubs.specs.NumberStubs.{MadeStub, number_after, number_stub, number_stubs}
use Rattle.cfm_stubs.specs.Stubs.{exports_from, numbered}
use Rattle.cfm_stubs.specs.Symbols.{HaveOwnNames, Symbol, are_named, library_symbols, symbols_of, with_symbol}

-- an import has a name
abbrev is_for : List ℕ → Import → Bool
is_for name i = bytes_eq name i.name

or-assoc : (a b c : Bool) → ((a || b) || c) ≡ (a || (b || c))
or-assoc true b c = refl
or-assoc false b c = refl

named-append : (xs ys : List Symbol) (name : List ℕ) → are_named (xs ++ ys) name ≡ (are_named xs name || are_named ys name)
named-append [] ys name = refl
named-append (x ∷ xs) ys name = ap (λ b. bytes_eq name x.name || b) (named-append xs ys name) ∙ sym (or-assoc (bytes_eq name x.name) (are_named xs name) (are_named ys name))

abbrev symbol_of : Import → Symbol
symbol_of i = record { name = i.name; class = i.fields.class }

-- one more import adds its name
named-with : (symbols : List Symbol) (i : Import) (name : List ℕ) → are_named (with_symbol symbols i) name ≡ (are_named symbols name || is_for name i)
named-with symbols i name = by (are_named symbols i.name) refl
  where
    there : (b : Bool) → is_for name i ≡ b → are_named symbols i.name ≡ true → are_named symbols name ≡ (are_named symbols name || b)
    there true same is =
        let equal : name ≡ i.name = (bytes_eq-Decides name i.name).0 same in
        let own : are_named symbols name ≡ true = ap (are_named symbols) equal ∙ is in
        own ∙ sym (ap (λ b. b || true) own)
    there false other is = sym (or-false (are_named symbols name))

    by : (b : Bool) → are_named symbols i.name ≡ b → are_named (if b then symbols else symbols ++ symbol_of i ∷ []) name ≡ (are_named symbols name || is_for name i)
    by true is = there (is_for name i) refl is
    by false is = named-append symbols (symbol_of i ∷ []) name ∙ ap (λ b. are_named symbols name || b) (or-false (is_for name i))

named-all : (symbols : List Symbol) (imports : List Import) (name : List ℕ) → are_named (fold with_symbol symbols imports) name ≡ (are_named symbols name || list_any (is_for name) imports)
named-all symbols [] name = sym (or-false (are_named symbols name))
named-all symbols (i ∷ imports) name =
    named-all (with_symbol symbols i) imports name
    ∙ ap (λ b. b || list_any (is_for name) imports) (named-with symbols i name)
    ∙ or-assoc (are_named symbols name) (is_for name i) (list_any (is_for name) imports)

-- a name is that of a symbol exactly if an import has it
pub named_exactly : (imports : List Import) (name : List ℕ) → are_named (symbols_of imports) name ≡ list_any (λ (i : Import). bytes_eq name i.name) imports
named_exactly imports name = named-all [] imports name

-- a name that is new differs from the others
new-differs : (b c : Bool) (name other : List ℕ) → bytes_eq name other ≡ b → bytes_eq other name ≡ c → b ≡ false → c ≡ false
new-differs b true name other first second none =
    let equal : other ≡ name = (bytes_eq-Decides other name).0 second in
    sym ((bytes_eq-Decides name other).1 (sym equal)) ∙ first ∙ none
new-differs b false name other first second none = refl

first-false : (a b : Bool) → (a || b) ≡ false → a ≡ false
first-false true b is = absurd (cc)
first-false false b is = refl

later-false : (a b : Bool) → (a || b) ≡ false → b ≡ false
later-false true b is = absurd (cc)
later-false false b is = is

own-append : (xs : List Symbol) (s : Symbol) → HaveOwnNames xs → are_named xs s.name ≡ false → HaveOwnNames (xs ++ s ∷ [])
own-append [] s own new = (refl, tt)
own-append (x ∷ xs) s own new =
    let apart = new-differs (bytes_eq s.name x.name) (bytes_eq x.name s.name) s.name x.name refl refl (first-false (bytes_eq s.name x.name) (are_named xs s.name) new) in (
      named-append xs (s ∷ []) x.name ∙ ap (λ b. b || are_named (s ∷ []) x.name) own.0 ∙ ap (λ b. b || false) apart,
      own-append xs s own.1 (later-false (bytes_eq s.name x.name) (are_named xs s.name) new),
    )

own-with : (symbols : List Symbol) (i : Import) → HaveOwnNames symbols → HaveOwnNames (with_symbol symbols i)
own-with symbols i own = by (are_named symbols i.name) refl
  where
    by : (b : Bool) → are_named symbols i.name ≡ b → HaveOwnNames (if b then symbols else symbols ++ symbol_of i ∷ [])
    by true is = own
    by false is = own-append symbols (symbol_of i) own is

own-all : (symbols : List Symbol) (imports : List Import) → HaveOwnNames symbols → HaveOwnNames (fold with_symbol symbols imports)
own-all symbols [] own = own
own-all symbols (i ∷ imports) own = own-all (with_symbol symbols i) imports (own-with symbols i own)

-- no two symbols have one name
pub own_names : (imports : List Import) → HaveOwnNames (symbols_of imports)
own_names imports = own-all [] imports tt

-- symbol k has the number that is k steps after the first
pub number_at : (first step : ℕ) (symbols : List Symbol) (k : ℕ) → slice_get (exports_from first step symbols) k ≡ option_map (numbered (first + step * k)) (slice_get symbols k)
number_at first step [] k = refl
number_at first step (s ∷ symbols) zero = let e : first ≡ first + step * 0 = omega arith in ap (λ n. Some (numbered n s)) e
number_at first step (s ∷ symbols) (suc k) =
    let e : first + step + step * k ≡ first + step * suc k = omega arith in
    number_at (first + step) step symbols k ∙ ap (λ n. option_map (numbered n) (slice_get symbols k)) e

-- different symbols have different numbers
pub numbers_apart : (first step j k : ℕ) → 1 ≤ step → first + step * j ≡ first + step * k → j ≡ k
numbers_apart first step j k some same =
    elim (leb_tells j k) [
      | inl low ↦ elim (leb_tells k j) [
        | inl high ↦ (let a = low.1 in let b = high.1 in omega arith)
        | inr under ↦ (let h : j + 1 ≤ k = (let a = under.1 in omega arith) in absurd (omega (arith, same, mul-le-mul_left step h)))
      ]
      | inr above ↦ (let h : k + 1 ≤ j = (let a = above.1 in omega arith) in absurd (omega (arith, same, mul-le-mul_left step h)))
    ]

-- the exports of symbols after others go on
exports-append : (value step : ℕ) (xs ys : List Symbol) → exports_from value step (xs ++ ys) ≡ exports_from value step xs ++ exports_from (value + step * length xs) step ys
exports-append value step [] ys = let e : value ≡ value + step * 0 = omega arith in ap (λ n. exports_from n step ys) e
exports-append value step (x ∷ xs) ys =
    let e : value + step + step * length xs ≡ value + step * suc (length xs) = omega arith in
    ap (λ rest. numbered value x ∷ rest) (exports-append (value + step) step xs ys ∙ ap (λ n. exports_from (value + step) step xs ++ exports_from n step ys) e)

-- the exports of all stubs are those of all symbols
pub stubs_go_on : (loaders : List Loaded) (first step : ℕ) (names : List (List ℕ)) → flat_map (λ (s : MadeStub). s.exports) (number_stubs loaders first step names) ≡ exports_from first step (flat_map (library_symbols loaders) names)
unfolding number_stubs number_stub
stubs_go_on loaders first step [] = refl
stubs_go_on loaders first step (x ∷ names) =
    ap (λ rest. exports_from first step (library_symbols loaders x) ++ rest) (stubs_go_on loaders (number_after loaders first step x) step names)
    ∙ sym (exports-append first step (library_symbols loaders x) (flat_map (library_symbols loaders) names))
