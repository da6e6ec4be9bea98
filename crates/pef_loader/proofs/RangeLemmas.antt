-- The owner of an import among ranges that follow one another.
use Rattle.std.proofs.Common.{◌≡◌, ℕ, zero, suc, ◌+◌, ◌-◌, ◌<◌, ◌≤◌, List, Option, None, Some, true, false, refl, sym, ap, subst, arith}
use Rattle.std.specs.Prelude.{◌&&◌, nat_le, nat_lt}
use Rattle.std.specs.Option.{option_map_or}
use Rattle.std.proofs.lemmas.Bool.Decides.{nat_tests}
use Rattle.pef_words.proofs.Laws.Refusals.{first_among-at, first_among-none}
use Rattle.pef_loader.specs.declared.header.LoaderHeader.{LoaderHeader}
use Rattle.pef_loader.specs.Import.{owner_at, owner_of}
use Rattle.pef_loader.specs.Library.{LibraryEntry, library_at, owns}
use Rattle.pef_loader.specs.Kept.Cursors.{AreWithout}
use Rattle.pef_loader.specs.Kept.Ranges.{AreInOrder, end_of, first_of}

-- a range's first import isn't past its end
first-end-of : (e : Option LibraryEntry) → option_map_or (λ e. e.fields.first) e 0 ≤ option_map_or (λ e. e.fields.first + e.fields.count) e 0
first-end-of None = omega arith
first-end-of (Some e) = omega arith

pub first-end : (bytes : List ℕ) (i : ℕ) → first_of bytes i ≤ end_of bytes i
first-end bytes i = first-end-of (library_at bytes i)

-- a library has the imports within its range
owns-of : (j : ℕ) (e : Option LibraryEntry) → (nat_le (option_map_or (λ e. e.fields.first) e 0) j && nat_lt j (option_map_or (λ e. e.fields.first + e.fields.count) e 0)) ≡ option_map_or (λ e. nat_le e.fields.first j && nat_lt j (e.fields.first + e.fields.count)) e false
owns-of j None = grind (arith, nat_tests)
owns-of j (Some e) = refl

pub owns_is : (bytes : List ℕ) (j i : ℕ) → (nat_le (first_of bytes i) j && nat_lt j (end_of bytes i)) ≡ owns bytes j i
owns_is bytes j i = owns-of j (library_at bytes i)

-- an import that a range ends before isn't in it
owns-after-of : (j : ℕ) (e : Option LibraryEntry) → option_map_or (λ e. e.fields.first + e.fields.count) e 0 ≤ j → option_map_or (λ e. nat_le e.fields.first j && nat_lt j (e.fields.first + e.fields.count)) e false ≡ false
owns-after-of j None behind = refl
owns-after-of j (Some e) behind = grind (arith, nat_tests)

pub owns-after : (bytes : List ℕ) (j i : ℕ) → end_of bytes i ≤ j → owns bytes j i ≡ false
owns-after bytes j i behind = owns-after-of j (library_at bytes i) behind

-- a range ends before each later one begins
pub ends-before : (bytes : List ℕ) (n i d : ℕ) → AreInOrder bytes n → i + suc d < n → end_of bytes i ≤ first_of bytes (i + suc d)
ends-before bytes n i zero order under =
    let e : i + 1 ≡ i + suc zero = omega arith in
    rw (sym e) (order i (omega arith))
ends-before bytes n i (suc d) order under =
    let earlier = ends-before bytes n i d order (omega arith) in
    let within = first-end bytes (i + suc d) in
    let next = order (i + suc d) (omega arith) in
    let e : i + suc d + 1 ≡ i + suc (suc d) = omega arith in
    let last : first_of bytes (i + suc d + 1) ≡ first_of bytes (i + suc (suc d)) = ap (first_of bytes) e in
    omega (arith, earlier, within, next, last)

pub ends_before : (bytes : List ℕ) (n i k : ℕ) → AreInOrder bytes n → i < k → k < n → end_of bytes i ≤ first_of bytes k
ends_before bytes n i k order before under =
    let e : i + suc (k - suc i) ≡ k = omega arith in
    let P : ℕ → Type 0 = λ x. end_of bytes i ≤ first_of bytes x in
    subst P e (ends-before bytes n i (k - suc i) order (omega arith))

pub unowned : (bytes : List ℕ) (j i : ℕ) → owns bytes j i ≡ false → owner_at bytes j i ≡ None
unowned bytes j i not = rw not refl

pub owned : (bytes : List ℕ) (j i : ℕ) → owns bytes j i ≡ true → owner_at bytes j i ≡ Some i
owned bytes j i has = rw has refl

-- the libraries before one whose range begins at or before an import don't have it
pub none_before : (bytes : List ℕ) (n l j : ℕ) → AreInOrder bytes n → l < n → first_of bytes l ≤ j → AreWithout bytes l j
none_before bytes n l j order under first = λ i before. (let ends = ends_before bytes n i l order before under in owns-after bytes j i (omega arith))

-- the first library that has an import owns it
pub owner_first : (bytes : List ℕ) (h : LoaderHeader) (j l : ℕ) → AreWithout bytes l j → l < h.library_count → owns bytes j l ≡ true → owner_of bytes h j ≡ Some l
owner_first bytes h j l without under has =
    let e : 0 + l ≡ l = omega arith in
    first_among-at (owner_at bytes j) 0 h.library_count l l under (λ i low high. unowned bytes j i (without i (omega arith))) (rw (e, owned bytes j l has))

-- or no library has it
pub owner_none : (bytes : List ℕ) (h : LoaderHeader) (j l : ℕ) → AreWithout bytes l j → h.library_count ≤ l → owner_of bytes h j ≡ None
owner_none bytes h j l without all =
    first_among-none (owner_at bytes j) 0 h.library_count (λ i low high. unowned bytes j i (without i (omega arith)))

-- a range that begins before the last one ends doesn't follow it
pub out_of_order : (bytes : List ℕ) (n i start end : ℕ) → i < n → start ≡ first_of bytes i → start < end → (i ≡ 0 → end ≡ 0) → ((k : ℕ) → k + 1 ≡ i → end ≡ end_of bytes k)
    → AreInOrder bytes n → ⊥
out_of_order bytes n zero start end under begins before none last order = let none_before = none refl in omega arith
out_of_order bytes n (suc k) start end under begins before none last order =
    let e : k + 1 ≡ suc k = omega arith in
    let ends = last k e in
    let follows = order k (omega arith) in
    let here = ap (first_of bytes) e in
    omega (arith, ends, follows, here)
