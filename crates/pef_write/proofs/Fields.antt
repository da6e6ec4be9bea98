-- The values that spelled fields are read back as.
use Rattle.std.proofs.Common.{◌≡◌, ◌∙◌, ℕ, ◌+◌, ◌-◌, ◌<◌, ◌^◌, List, [], ◌∷◌, ◌++◌, Some, length, take, replicate, length-append, append-nil, append_assoc, refl, sym, ap, ap₂, subst, arith}
use Rattle.std.specs.Int.{next_multiple_of}
use Rattle.std.proofs.lemmas.Bool.{le-leb}
use Rattle.std.proofs.lemmas.List.{drop_at, length-replicate, take_all}
use Rattle.byteorder.specs.Endian.{big_bytes}
use Rattle.byteorder.specs.Numbers.{big_number-reads_back, length-bytes_high_first}
use Rattle.pef_words.specs.Bytes.{number_at}
use Rattle.pef_write.specs.declared.field.Field.{Field}
use Rattle.pef_write.specs.Fields.{field_bytes, padded, spelled, value, width}
use Rattle.pef_write.specs.Kept.Fits.{AllFit, Reads}

-- the next multiple is as far as what lies before it and the gap
next_from : (n multiple : ℕ) → n + (next_multiple_of n multiple - n) ≡ next_multiple_of n multiple
next_from n multiple = omega arith

-- four parts, and a part within a part, as parts one after the other
pub outward : (a b c d : List ℕ) → ((a ++ b) ++ c) ++ d ≡ a ++ (b ++ (c ++ d))
outward a b c d = simp append_assoc

pub inward : (a b c d e : List ℕ) → a ++ ((b ++ (c ++ d)) ++ e) ≡ (a ++ b) ++ (c ++ (d ++ e))
inward a b c d e = simp append_assoc

-- the part written and the part left make the whole, also when one more part is written
pub one_more : (before part now left rest whole : List ℕ) → now ≡ before ++ part → left ≡ part ++ rest → before ++ left ≡ whole → now ++ rest ≡ whole
one_more before part now left rest whole written split all =
    ap (λ z. z ++ rest) written ∙ append_assoc before part rest ∙ ap (λ z. before ++ z) (sym split) ∙ all

-- .. and if nothing is left the whole is written
pub all_written : (before part now left whole : List ℕ) → now ≡ before ++ part → left ≡ part → before ++ left ≡ whole → now ≡ whole
all_written before part now left whole written split all = written ∙ ap (λ z. before ++ z) (sym split) ∙ all

-- bytes with zeros after them end at the next multiple
pub length-padded : (multiple : ℕ) (bytes : List ℕ) → length (padded multiple bytes) ≡ next_multiple_of (length bytes) multiple
unfolding padded
length-padded multiple bytes =
    let n : ℕ = next_multiple_of (length bytes) multiple - length bytes in
    length-append bytes (replicate n 0) ∙ ap (λ z. length bytes + z) (length-replicate n 0) ∙ next_from (length bytes) multiple

-- the whole is written, if there was nothing before
pub from_nothing : (before now whole : List ℕ) → now ≡ before ++ whole → before ≡ [] → now ≡ whole
from_nothing before now whole written none = written ∙ ap (λ z. z ++ whole) none

-- a vector that is filled up with zeros to the next multiple
pub resized : (multiple n len : ℕ) (bytes : List ℕ) → n ≡ next_multiple_of (length bytes) multiple → len ≡ length bytes → take n bytes ++ replicate (n - len) 0 ≡ padded multiple bytes
unfolding padded
resized multiple n len bytes end whole =
    let front = take_all n bytes (omega arith) in
    rw (front, end, whole) refl

-- the bytes of fields after fields are after theirs
pub spelled-append : (xs ys : List Field) → spelled (xs ++ ys) ≡ spelled xs ++ spelled ys
unfolding spelled
spelled-append [] ys = refl
spelled-append (x ∷ xs) ys = ap (λ z. field_bytes x ++ z) (spelled-append xs ys) ∙ sym (append_assoc (field_bytes x) (spelled xs) (spelled ys))

-- a number after some bytes
number_here : (n x : ℕ) (before rest : List ℕ) → x < 256 ^ n → number_at n (before ++ (big_bytes n x ++ rest)) (length before) ≡ Some x
unfolding number_at
number_here n x before rest fits =
    let whole = length-append before (big_bytes n x ++ rest) in
    let part = length-append (big_bytes n x) rest in
    let bytes = length-bytes_high_first n x in
    let inside = le-leb (length before + n) (length (before ++ (big_bytes n x ++ rest))) (omega arith) in
    rw (inside, drop_at before (big_bytes n x ++ rest) (length before) refl, big_number-reads_back n x rest fits) refl

reads_from : (from off : ℕ) (before rest : List ℕ) (fields : List Field) → length before ≡ from + off → AllFit fields → Reads (before ++ (spelled fields ++ rest)) from off fields
unfolding spelled
reads_from from off before rest [] here fits = tt
reads_from from off before rest (field ∷ fields) here fits =
    let bytes = length-bytes_high_first (width field) (value field) in
    let joined = length-append before (field_bytes field) in
    let later = reads_from from (off + width field) (before ++ field_bytes field) rest fields (omega arith) fits.1 in
    let number = number_here (width field) (value field) before (spelled fields ++ rest) fits.0 in
    let inner : (field_bytes field ++ spelled fields) ++ rest ≡ field_bytes field ++ (spelled fields ++ rest) = append_assoc (field_bytes field) (spelled fields) rest in
    let outer : before ++ ((field_bytes field ++ spelled fields) ++ rest) ≡ (before ++ field_bytes field) ++ (spelled fields ++ rest) = ap (λ z. before ++ z) inner ∙ sym (append_assoc before (field_bytes field) (spelled fields ++ rest)) in
    let P : List ℕ → Type 0 = λ bytes. Reads bytes from (off + width field) fields in
    let Q : List ℕ → Type 0 = λ z. number_at (width field) (before ++ z) (from + off) ≡ Some (value field) in
    (subst Q (sym inner) (rw here at number), subst P (sym outer) later)

-- fields after some bytes are read back, whatever follows
pub reads : (before rest : List ℕ) (fields : List Field) → AllFit fields → Reads (before ++ (spelled fields ++ rest)) (length before) 0 fields
reads before rest fields fits = reads_from (length before) 0 before rest fields (omega arith) fits

-- if nothing is left, the part written is the whole
pub none_left : (now left whole : List ℕ) → left ≡ [] → now ++ left ≡ whole → now ≡ whole
none_left now left whole none all = sym (append-nil now) ∙ ap (λ z. now ++ z) (sym none) ∙ all

-- how many bytes some fields have
abbrev pub widths : List Field → ℕ
widths [] = 0
widths (field ∷ fields) = width field + widths fields

pub widths-length : (fields : List Field) → length (spelled fields) ≡ widths fields
unfolding spelled
widths-length [] = refl
widths-length (field ∷ fields) =
    length-append (field_bytes field) (spelled fields) ∙ ap₂ (λ a b. a + b) (length-bytes_high_first (width field) (value field)) (widths-length fields)

-- fields that are read are those of both parts
pub reads-split : (bytes : List ℕ) (from off : ℕ) (xs ys : List Field) → Reads bytes from off (xs ++ ys) → Reads bytes from off xs × Reads bytes from (off + widths xs) ys
reads-split bytes from off [] ys all =
    let e : off ≡ off + 0 = omega arith in
    let P : ℕ → Type 0 = λ off. Reads bytes from off ys in
    (tt, subst P e all)
reads-split bytes from off (x ∷ xs) ys all =
    let later = reads-split bytes from (off + width x) xs ys all.1 in
    let e : off + width x + widths xs ≡ off + (width x + widths xs) = omega arith in
    let P : ℕ → Type 0 = λ off. Reads bytes from off ys in
    ((all.0, later.0), subst P e later.1)

-- fields that fit are those of both parts
pub fit-append : (xs ys : List Field) → AllFit xs → AllFit ys → AllFit (xs ++ ys)
fit-append [] ys first second = second
fit-append (x ∷ xs) ys first second = (first.0, fit-append xs ys first.1 second)

-- a place under another name
pub reads-at : (bytes : List ℕ) (from off from' off' : ℕ) (fields : List Field) → from + off ≡ from' + off' → Reads bytes from off fields → Reads bytes from' off' fields
reads-at bytes from off from' off' [] same all = tt
reads-at bytes from off from' off' (x ∷ xs) same all =
    let P : ℕ → Type 0 = λ at. number_at (width x) bytes at ≡ Some (value x) in
    (subst P same all.0, reads-at bytes from (off + width x) from' (off' + width x) xs (omega arith) all.1)

-- fields in three parts that are written one after the other
pub in_three : (before : List ℕ) (xs ys zs : List Field) (first second third : List ℕ) → first ≡ before ++ spelled xs → second ≡ first ++ spelled ys → third ≡ second ++ spelled zs → third ≡ before ++ spelled (xs ++ (ys ++ zs))
in_three before xs ys zs first second third a b d =
    let all : spelled (xs ++ (ys ++ zs)) ≡ spelled xs ++ (spelled ys ++ spelled zs) = spelled-append xs (ys ++ zs) ∙ ap (λ z. spelled xs ++ z) (spelled-append ys zs) in
    rw (all, d, b, a) (simp append_assoc)
