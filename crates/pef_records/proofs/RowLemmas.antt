-- Places that are filled one by one with rows: those of a table by their numbers, and then those that are read in order.
use Rattle.std.proofs.Common.{◌≡◌, ℕ, zero, suc, ◌+◌, ◌<◌, ◌≤◌, List, [], ◌∷◌, ◌++◌, drop, length, take, slice_set, refl, sym, ap, ap₂, subst, ◌∙◌, arith, length-drop}
use Rattle.std.specs.Prelude.{Option, Some, map, min, None}
use Rattle.std.specs.Option.{option_map_or}
use Rattle.std.proofs.lemmas.List.{drop-drop, drop_all, length-take-le, length-map, take_all}
use Rattle.std.proofs.Math.Seq.{take-length}
use Rattle.pef_records.specs.Buffers.{FillsPart, FillsRows, filled, shown_at}

filled_empty : {A : Type 0} (row : ℕ → Option A) (from n : ℕ) → filled row from n [] ≡ []
filled_empty row from zero = refl
filled_empty row from (suc n) = refl

-- a row that isn't there fills no place
filled_same : {A : Type 0} (row : ℕ → Option A) (from n : ℕ) (old : List A) → row (from + n) ≡ None → filled row from n old ≡ filled row from (n + 1) old
filled_same row from n [] none = filled_empty row from n ∙ sym (filled_empty row from (n + 1))
filled_same row from zero (o ∷ os) none = search (arith)
filled_same row from (suc n) (o ∷ os) none =
    let e : from + suc n ≡ (from + 1) + n = omega arith in
    search (arith, filled_same row (from + 1) n os)

-- one more place is filled with its row
pub filled_more : {A B : Type 0} (shown : B → A) (row : ℕ → Option A) (from n : ℕ) (places : List B) (old : List A) (place : B)
    → n < length places → row (from + n) ≡ Some (shown place) → map shown places ≡ filled row from n old
    → map shown (slice_set places n place) ≡ filled row from (n + 1) old
filled_more shown row from n [] old place under there are = search arith
filled_more shown row from zero (p ∷ ps) [] place under there are = search
filled_more shown row from zero (p ∷ ps) (o ∷ os) place under there are = search arith
filled_more shown row from (suc n) (p ∷ ps) [] place under there are = search
filled_more shown row from (suc n) (p ∷ ps) (o ∷ os) place under there are =
    let e : from + suc n ≡ (from + 1) + n = omega arith in
    search (arith, filled_more shown row (from + 1) n ps os place)

-- a place without a row stays as it is
pub filled_past : {A B : Type 0} (shown : B → A) (row : ℕ → Option A) (from n : ℕ) (places : List B) (old : List A)
    → row (from + n) ≡ None → map shown places ≡ filled row from n old → map shown places ≡ filled row from (n + 1) old
filled_past shown row from n places old none are = are ∙ filled_same row from n old none

-- one more item is passed
pub passed_more : {A : Type 0} (whole : List A) (n : ℕ) (x : A) (rest : List A) → drop n whole ≡ x ∷ rest → rest ≡ drop (n + 1) whole
passed_more whole n x rest here = ap (drop 1) (sym here) ∙ drop-drop 1 n whole

-- or none is left
pub passed_all : {A : Type 0} (whole : List A) (n count : ℕ) → n ≤ count → drop n whole ≡ [] → drop count whole ≡ []
passed_all whole n count under none =
    let len : length (drop n whole) ≡ 0 = ap (λ (xs : List _). length xs) none in
    drop_all count whole (omega (arith, under, len, length-drop n whole))

-- the first n places have the first n rows, and those from there on are left
pub record Filled {A B : Type 0} (shown : B → A) (rows : List A) (old : List A) (n : ℕ) (left : List A) (places : List B) : Type 0 where
  pub left_is : left ≡ drop n rows
  pub few : n ≤ length rows
  pub places_are : map shown places ≡ take n rows ++ drop n old
  pub as_many : length places ≡ length old

pub filled_first : {A B : Type 0} (shown : B → A) (rows : List A) (places : List B) → Filled shown rows (map shown places) 0 rows places
filled_first shown rows places = record { left_is = refl; few = omega arith; places_are = refl; as_many = sym (length-map places shown) }

head_is : {A : Type 0} (x y : A) (xs ys : List A) → ◌≡◌ {A = List A} (x ∷ xs) (y ∷ ys) → x ≡ y
head_is x y xs ys e = cc e

tail_is : {A : Type 0} (x y : A) (xs ys : List A) → ◌≡◌ {A = List A} (x ∷ xs) (y ∷ ys) → xs ≡ ys
tail_is x y xs ys e = cc e

set_next : {A B : Type 0} (shown : B → A) (rows : List A) (n : ℕ) (x : A) (rest : List A) (places : List B) (old : List A) (place : B) → n < length places → length places ≡ length old → drop n rows ≡ x ∷ rest → shown place ≡ x
    → map shown places ≡ take n rows ++ drop n old → map shown (slice_set places n place) ≡ take (suc n) rows ++ drop (suc n) old
set_next shown rows n x rest [] old place under same here is are = absurd (omega arith)
set_next shown rows n x rest (p ∷ ps) [] place under same here is are = absurd (omega (arith, same))
set_next shown [] zero x rest (p ∷ ps) (o ∷ os) place under same here is are = absurd (cc here)
set_next shown [] (suc n) x rest (p ∷ ps) (o ∷ os) place under same here is are = absurd (cc here)
set_next shown (r ∷ rs) zero x rest (p ∷ ps) (o ∷ os) place under same here is are =
    ap₂ (λ (y : _) (ys : List _). y ∷ ys) (is ∙ sym (head_is r x rs rest here)) (tail_is (shown p) o (map shown ps) os are)
set_next shown (r ∷ rs) (suc n) x rest (p ∷ ps) (o ∷ os) place under same here is are =
    ap₂ (λ (y : _) (ys : List _). y ∷ ys) (head_is (shown p) r (map shown ps) (take n rs ++ drop n os) are)
    (set_next shown rs n x rest ps os place (omega arith) (omega (arith, same)) here is (tail_is (shown p) r (map shown ps) (take n rs ++ drop n os) are))

pub len_set : {B : Type 0} (places : List B) (n : ℕ) (place : B) → length (slice_set places n place) ≡ length places
len_set [] n place = refl
len_set (p ∷ ps) zero place = refl
len_set (p ∷ ps) (suc n) place = ap suc (len_set ps n place)

-- one more place
pub filled_next : {A B : Type 0} (shown : B → A) (rows old : List A) (n : ℕ) (left rest : List A) (x : A) (places : List B) (place : B) → Filled shown rows old n left places → n < length places → left ≡ x ∷ rest → shown place ≡ x
    → Filled shown rows old (n + 1) rest (slice_set places n place)
filled_next shown rows old n left rest x places place f under here is =
    let next : n + 1 ≡ suc n = omega arith in
    let there : drop n rows ≡ x ∷ rest = sym f.left_is ∙ here in
    let len : length (drop n rows) ≡ suc (length rest) = ap (λ (xs : List _). length xs) there in
    record {
      left_is = passed_more rows n x rest there;
      few = omega (arith, len, length-drop n rows);
      places_are = subst (λ m. map shown (slice_set places n place) ≡ take m rows ++ drop m old) (sym next) (set_next shown rows n x rest places old place under f.as_many there is f.places_are);
      as_many = len_set places n place ∙ f.as_many;
    }

-- no row is left
pub filled_all : {A B : Type 0} (shown : B → A) (rows old : List A) (n : ℕ) (left : List A) (places : List B) → Filled shown rows old n left places → n ≤ length places → left ≡ [] → FillsPart rows 0 old (map shown places) n
filled_all shown rows old n left places f under none =
    let len : length (drop n rows) ≡ 0 = ap (λ (xs : List _). length xs) (sym f.left_is ∙ none) in
    let all : n ≡ length rows = omega (arith, len, length-drop n rows, f.few) in
    let whole : take n rows ≡ rows = ap (λ m. take m rows) all ∙ take-length rows in
    let fits : take (length old) rows ≡ rows = take_all (length old) rows (omega (arith, all, under, f.as_many)) in
    rw fits (f.places_are ∙ rw (whole, ← all) refl, all)

-- no place is left
pub filled_full : {A B : Type 0} (shown : B → A) (rows old : List A) (n : ℕ) (left : List A) (places : List B) → Filled shown rows old n left places → n ≤ length places → length places ≤ n → FillsPart rows 0 old (map shown places) n
filled_full shown rows old n left places f under past =
    let full : length old ≡ n = omega (arith, under, past, f.as_many) in
    let len = length-take-le n rows f.few in
    rw (full, len) (f.places_are, refl)

-- the rows from a number on, if those before are passed
pub filled_from : {A : Type 0} (rows left : List A) (from : ℕ) (old new : List A) (count : ℕ) → left ≡ drop from rows → FillsPart left 0 old new count → FillsPart rows from old new count
filled_from rows left from old new count is fills = subst (λ (xs : List _). FillsPart xs 0 old new count) is fills

-- a front is as long as it may be
length_front : {A : Type 0} (n : ℕ) (xs : List A) → length (take n xs) ≡ min n (length xs)
length_front zero xs = omega arith
length_front (suc n) [] = omega arith
length_front (suc n) (x ∷ xs) =
    let len = length_front n xs in
    omega (arith, len)

-- the first row left is the one with its number
row_here : {A B : Type 0} (given : B → A) (rows : List B) (from : ℕ) (x : A) (others : List A) → drop from (map given rows) ≡ x ∷ others → shown_at given rows from ≡ Some x
row_here given [] zero x others is = absurd (cc is)
row_here given [] (suc n) x others is = absurd (cc is)
row_here given (r ∷ rows) zero x others is = ap Some (head_is (given r) x (map given rows) others is)
row_here given (r ∷ rows) (suc n) x others is = row_here given rows n x others is

filled_by_number : {A B : Type 0} (given : B → A) (rows : List B) (from : ℕ) (old left : List A) → left ≡ drop from (map given rows)
    → take (length old) left ++ drop (length (take (length old) left)) old ≡ filled (shown_at given rows) from (length (take (length old) left)) old
filled_by_number given rows from [] left is = refl
filled_by_number given rows from (o ∷ os) [] is = refl
filled_by_number given rows from (o ∷ os) (x ∷ others) is =
    let here = row_here given rows from x others (sym is) in
    let next : others ≡ drop (from + 1) (map given rows) = passed_more (map given rows) from x others (sym is) in
    ap₂ (λ (y : _) (ys : List _). y ∷ ys) (sym (ap (λ (r : Option _). option_map_or (λ y. y) r o) here)) (filled_by_number given rows (from + 1) os others next)

-- places that are filled in order have the rows with their numbers
pub filled_rows : {A B : Type 0} (given : B → A) (rows : List B) (from : ℕ) (old new : List A) (count : ℕ) → FillsPart (map given rows) from old new count → FillsRows given rows from old new count
filled_rows given rows from old new count fills =
    let len = length_front (length old) (drop from (map given rows)) in
    let left = length-drop from (map given rows) in
    let all = length-map rows given in
    let many = fills.1 in (
      omega (arith, len, left, all, many),
      fills.0 ∙ filled_by_number given rows from old (drop from (map given rows)) refl ∙ ap (λ n. filled (shown_at given rows) from n old) (sym many),
    )

unshown : {A : Type 0} (xs : List A) → map (λ x. x) xs ≡ xs
unshown [] = refl
unshown (x ∷ xs) = ap (λ (ys : List _). x ∷ ys) (unshown xs)

-- the same for rows that are seen as they are
pub filled_alone : {A : Type 0} (rows : List A) (from : ℕ) (old new : List A) (count : ℕ) → FillsPart rows from (map (λ x. x) old) (map (λ x. x) new) count → FillsRows (λ x. x) rows from old new count
filled_alone rows from old new count fills =
    filled_rows (λ x. x) rows from old new count (rw (unshown rows, ← unshown old, ← unshown new) fills)
