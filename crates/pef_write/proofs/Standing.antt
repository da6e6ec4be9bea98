-- Where a part of some bytes is, and the values read from it there; and the entries of a table, each with fields as
-- wide as those of any other.
use Rattle.std.proofs.Common.{◌≡◌, ◌∙◌, ℕ, zero, suc, ◌+◌, ◌*◌, ◌≤◌, List, [], ◌∷◌, ◌++◌, Some, length, take, drop, map, length-append, append-nil, append_assoc, refl, sym, ap, subst, arith}
use Rattle.std.specs.Prelude.{slice_get}
use Rattle.std.specs.List.{flat_map}
use Rattle.std.proofs.lemmas.Bool.{le-leb, ne_eqb}
use Rattle.std.proofs.lemmas.List.{drop_at, take_at}
use Rattle.pef_format.specs.Exports.{Export}
use Rattle.pef_format.specs.Symbols.{Import}
use Rattle.pef_loader.specs.Library.{Library}
use Rattle.pef_words.specs.Bytes.{before_zero, name_at, part_of}
use Rattle.pef_write.specs.declared.field.Field.{Field}
use Rattle.pef_write.specs.declared.field.Field.TheVariants.{Word}
use Rattle.pef_write.specs.Loaders.{ProgramEntry, export_entry, export_fields, import_entry, import_fields, library_entry, library_fields, program_fields, relocation_entry}
use Rattle.pef_write.specs.Kept.Fits.{Reads}
use Rattle.pef_write.specs.Kept.Tables.{HasNoZero}
use Rattle.pef_write.proofs.Fields.{inward, reads-at, reads-split, widths}

-- a part of some bytes, at a place
pub record Stands (bytes part : List ℕ) (at : ℕ) : Type 0 where
  pub before : List ℕ
  pub behind : List ℕ
  pub is : bytes ≡ before ++ (part ++ behind)
  pub far : length before ≡ at

-- the front and the end of two joined parts
pub stands-front : (xs ys : List ℕ) → Stands (xs ++ ys) xs 0
stands-front xs ys = record { before = []; behind = ys; is = refl; far = refl }

pub stands-end : (xs ys : List ℕ) → Stands (xs ++ ys) ys (length xs)
stands-end xs ys = record { before = xs; behind = []; is = ap (λ z. xs ++ z) (sym (append-nil ys)); far = refl }

-- a part of a part
pub stands-in : (bytes xs part : List ℕ) (at off : ℕ) → Stands bytes xs at → Stands xs part off → Stands bytes part (at + off)
stands-in bytes xs part at off outer within = record {
  before = outer.before ++ within.before;
  behind = within.behind ++ outer.behind;
  is = outer.is ∙ ap (λ z. outer.before ++ (z ++ outer.behind)) within.is ∙ inward outer.before within.before part within.behind outer.behind;
  far = (let joined = length-append outer.before within.before in let a = outer.far in let b = within.far in omega (arith, joined, a, b));
}

-- the bytes of one element among those of all
pub stands-among : {X : Type 0} (f : X → List ℕ) (xs : List X) (i : ℕ) (x : X) → slice_get xs i ≡ Some x → Stands (flat_map f xs) (f x) (length (flat_map f (take i xs)))
stands-among f [] i x there = absurd (cc)
stands-among {X} f (y ∷ xs) zero x there =
    let same : y ≡ x = cc in
    let P : X → Type 0 = λ x. Stands (flat_map f (y ∷ xs)) (f x) 0 in
    subst P same (stands-front (f y) (flat_map f xs))
stands-among f (y ∷ xs) (suc i) x there =
    let within = stands-among f xs i x there in
    let all = stands-in (f y ++ flat_map f xs) (flat_map f xs) (f x) (length (f y)) (length (flat_map f (take i xs))) (stands-end (f y) (flat_map f xs)) within in
    let P : ℕ → Type 0 = λ at. Stands (flat_map f (y ∷ xs)) (f x) at in
    subst P (sym (length-append (f y) (flat_map f (take i xs)))) all

-- a list that is made from a mapped list
pub flat_map-map : {X Y : Type 0} (g : Y → List ℕ) (f : X → Y) (xs : List X) → flat_map g (map f xs) ≡ flat_map (λ x. g (f x)) xs
flat_map-map g f [] = refl
flat_map-map g f (x ∷ xs) = ap (λ z. g (f x) ++ z) (flat_map-map g f xs)

-- a part is read at its place
pub part-stands : (bytes part : List ℕ) (at : ℕ) → Stands bytes part at → part_of bytes at (length part) ≡ Some part
unfolding part_of
part-stands bytes part at s =
    let whole = length-append s.before (part ++ s.behind) in
    let own = length-append part s.behind in
    let len : length bytes ≡ length (s.before ++ (part ++ s.behind)) = ap length s.is in
    let far = s.far in
    let inside = le-leb (at + length part) (length bytes) (omega arith) in
    let rest : drop at bytes ≡ part ++ s.behind = ap (drop at) s.is ∙ drop_at s.before (part ++ s.behind) at far in
    rw (inside, rest, take_at part s.behind (length part) refl) refl

-- a name that ends before a zero byte
before-zero : (name behind : List ℕ) → HasNoZero name → before_zero (name ++ 0 ∷ behind) ≡ Some name
before-zero [] behind nowhere = refl
before-zero (b ∷ name) behind nowhere =
    let later = before-zero name behind (λ k d under. nowhere (suc k) d (omega arith)) in
    rw (ne_eqb b 0 (nowhere 0 b (omega arith)), later) refl

pub name-stands : (bytes name : List ℕ) (at : ℕ) → Stands bytes (name ++ 0 ∷ []) at → HasNoZero name → name_at bytes at ≡ Some name
unfolding name_at
name-stands bytes name at s nowhere =
    let rest : drop at bytes ≡ name ++ 0 ∷ s.behind = ap (drop at) s.is ∙ drop_at s.before ((name ++ 0 ∷ []) ++ s.behind) at s.far ∙ append_assoc name (0 ∷ []) s.behind in
    rw (rest, before-zero name s.behind nowhere) refl

-- .. and lies inside
pub stands-inside : (bytes part : List ℕ) (at : ℕ) → Stands bytes part at → at + length part ≤ length bytes
stands-inside bytes part at s =
    let whole = length-append s.before (part ++ s.behind) in
    let own = length-append part s.behind in
    let len : length bytes ≡ length (s.before ++ (part ++ s.behind)) = ap length s.is in
    let far = s.far in
    omega arith

-- if all bytes before its place are dropped, it is at the front
pub stands-dropped : (bytes part : List ℕ) (at : ℕ) → Stands bytes part at → Stands (drop at bytes) part 0
stands-dropped bytes part at s =
    let rest : drop at bytes ≡ part ++ s.behind = ap (drop at) s.is ∙ drop_at s.before (part ++ s.behind) at s.far in
    let P : List ℕ → Type 0 = λ bytes. Stands bytes part 0 in
    subst P (sym rest) (stands-front part s.behind)

-- a table of entries whose fields are as wide as those of any other; each entry counts the bytes that it has
-- elsewhere
pub record IsTable {X : Type 0} (table : ℕ → List X → List Field) (one : ℕ → X → List Field) (bytes : X → List ℕ) (wide : ℕ) : Type 0 where
  pub more : (at : ℕ) (x : X) (xs : List X) → table at (x ∷ xs) ≡ one at x ++ table (at + length (bytes x)) xs
  pub width : (at : ℕ) (x : X) → widths (one at x) ≡ wide

-- entry i of a table that is read
pub table-entry : {X : Type 0} {table : ℕ → List X → List Field} {one : ℕ → X → List Field} {elsewhere : X → List ℕ} {wide : ℕ} → IsTable table one elsewhere wide
    → (bytes : List ℕ) (off at : ℕ) (xs : List X) (i : ℕ) (x : X) → slice_get xs i ≡ Some x → Reads bytes 0 off (table at xs)
    → Reads bytes (off + wide * i) 0 (one (at + length (flat_map elsewhere (take i xs))) x)
table-entry is bytes off at [] i x there all = absurd (cc)
table-entry {X} {table} {one} {elsewhere} {wide} is bytes off at (y ∷ xs) zero x there all =
    let P : List Field → Type 0 = λ fields. Reads bytes 0 off fields in
    let front = (reads-split bytes 0 off (one at y) (table (at + length (elsewhere y)) xs) (subst P (is.more at y xs) all)).0 in
    let here = reads-at bytes 0 off (off + wide * 0) 0 (one at y) (omega arith) front in
    let e : at ≡ at + 0 = omega arith in
    let same : y ≡ x = cc in
    let Q : ℕ → Type 0 = λ at. Reads bytes (off + wide * 0) 0 (one at y) in
    let R : X → Type 0 = λ x. Reads bytes (off + wide * 0) 0 (one (at + 0) x) in
    subst R same (subst Q e here)
table-entry {X} {table} {one} {elsewhere} {wide} is bytes off at (y ∷ xs) (suc i) x there all =
    let P : List Field → Type 0 = λ fields. Reads bytes 0 off fields in
    let others = (reads-split bytes 0 off (one at y) (table (at + length (elsewhere y)) xs) (subst P (is.more at y xs) all)).1 in
    let later = table-entry is bytes (off + widths (one at y)) (at + length (elsewhere y)) xs i x there others in
    let joined = length-append (elsewhere y) (flat_map elsewhere (take i xs)) in
    let wide_is = is.width at y in
    let e : off + widths (one at y) + wide * i ≡ off + wide * suc i = omega arith in
    let f : at + length (elsewhere y) + length (flat_map elsewhere (take i xs)) ≡ at + length (elsewhere y ++ flat_map elsewhere (take i xs)) = omega arith in
    let Q : ℕ → Type 0 = λ from. Reads bytes from 0 (one (at + length (elsewhere y) + length (flat_map elsewhere (take i xs))) x) in
    let R : ℕ → Type 0 = λ at. Reads bytes (off + wide * suc i) 0 (one at x) in
    subst R f (subst Q e later)

-- the name of a library or an import with its zero byte
abbrev pub library_name : Library → List ℕ
library_name l = l.name ++ 0 ∷ []

abbrev pub import_name : Import → List ℕ
import_name i = i.name ++ 0 ∷ []

pub libraries-table : IsTable library_fields library_entry library_name 24
unfolding library_fields
libraries-table = record {
  more = λ at l libraries. ap (λ n. library_entry at l ++ library_fields (at + n) libraries) (sym (length-append l.name (0 ∷ [])));
  width = λ at l. refl;
}

pub imports-table : IsTable import_fields import_entry import_name 4
unfolding import_fields
imports-table = record {
  more = λ at i imports. ap (λ n. import_entry at i ++ import_fields (at + n) imports) (sym (length-append i.name (0 ∷ [])));
  width = λ at i. refl;
}

pub programs-table : IsTable program_fields relocation_entry (λ (p : ProgramEntry). p.bytes) 12
unfolding program_fields
programs-table = record { more = λ at p programs. refl; width = λ at p. refl }

pub words-table : IsTable {X = ℕ} (λ at words. map Word words) (λ at w. Word w ∷ []) (λ w. []) 4
words-table = record { more = λ at w words. refl; width = λ at w. refl }

pub exports-table : IsTable export_fields export_entry (λ (e : Export). e.name) 10
unfolding export_fields
exports-table = record { more = λ at e exports. refl; width = λ at e. refl }
