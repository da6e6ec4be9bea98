-- Rows that come one after the other, and fill places from a number on.
use Rattle.std.proofs.Common.{◌≡◌, ℕ, zero, suc, ◌+◌, ◌<◌, ◌≤◌, List, [], ◌∷◌, ◌++◌, drop, length, take, slice_index_or, slice_set, refl, ap, ◌∙◌, arith, append_assoc}
use Rattle.pef_records.specs.Buffers.{FillsPart}

-- the front of the places gets the first rows
abbrev front : {A : Type 0} → List A → List A → List A
front rows old = take (length old) rows

-- one row more is after those that are left
drop_snoc : {A : Type 0} (rows : List A) (from : ℕ) (x : A) → from ≤ length rows → drop from (rows ++ x ∷ []) ≡ drop from rows ++ x ∷ []
drop_snoc rows zero x under = refl
drop_snoc [] (suc from) x under = absurd (omega (arith, under))
drop_snoc (r ∷ rows) (suc from) x under = drop_snoc rows from x (omega (arith, under))

same_length : {A : Type 0} (rows old : List A) → length (front rows old ++ drop (length (front rows old)) old) ≡ length old
same_length [] [] = refl
same_length [] (o ∷ os) = refl
same_length (r ∷ rows) [] = refl
same_length (r ∷ rows) (o ∷ os) = ap suc (same_length rows os)

place_set : {A : Type 0} (rows old : List A) (x : A) → length (front rows old) < length old
    → slice_set (front rows old ++ drop (length (front rows old)) old) (length (front rows old)) x
    ≡ front (rows ++ x ∷ []) old ++ drop (length (front (rows ++ x ∷ []) old)) old
place_set [] [] x under = absurd (omega (arith, under))
place_set [] (o ∷ []) x under = refl
place_set [] (o ∷ (q ∷ os)) x under = refl
place_set (r ∷ rows) [] x under = absurd (omega (arith, under))
place_set (r ∷ rows) (o ∷ os) x under = ap (λ (ys : List _). r ∷ ys) (place_set rows os x (omega (arith, under)))

count_next : {A : Type 0} (rows old : List A) (x : A) → length (front rows old) < length old → length (front rows old) + 1 ≡ length (front (rows ++ x ∷ []) old)
count_next [] [] x under = absurd (omega (arith, under))
count_next [] (o ∷ []) x under = refl
count_next [] (o ∷ (q ∷ os)) x under = refl
count_next (r ∷ rows) [] x under = absurd (omega (arith, under))
count_next (r ∷ rows) (o ∷ os) x under =
    let next = count_next rows os x (omega (arith, under)) in
    omega (arith, next)

-- the next row is put into the next place
pub written_next : {A : Type 0} (rows old places : List A) (from count : ℕ) (x : A) → from ≤ length rows → count < length places
    → FillsPart rows from old places count → FillsPart (rows ++ x ∷ []) from old (slice_set places count x) (count + 1)
written_next rows old places from count x passed under fills =
    let left = drop from rows in
    let len : length places ≡ length old = ap (λ (ps : List _). length ps) fills.0 ∙ same_length left old in
    let few : length (front left old) < length old = omega (arith, under, len, fills.1) in
    rw (drop_snoc rows from x passed, fills.1, fills.0) (place_set left old x few, count_next left old x few)

-- what was in a place, and the places after it
place_left : {A : Type 0} (places : List A) (count : ℕ) (x other : A) → count < length places
    → slice_index_or places count other ∷ drop (count + 1) (slice_set places count x) ≡ drop count places
place_left [] count x other under = absurd (omega (arith, under))
place_left (p ∷ ps) zero x other under = refl
place_left (p ∷ ps) (suc count) x other under =
    let next : suc count + 1 ≡ suc (count + 1) = omega arith in
    rw next (place_left ps count x other (omega (arith, under)))

-- as one more place is filled, it is known what was in the places before
pub start_same : {A : Type 0} (were places : List A) (count : ℕ) (x other : A) → count < length places
    → (were ++ slice_index_or places count other ∷ []) ++ drop (count + 1) (slice_set places count x) ≡ were ++ drop count places
start_same were places count x other under =
    append_assoc were (slice_index_or places count other ∷ []) (drop (count + 1) (slice_set places count x))
    ∙ ap (λ (ys : List _). were ++ ys) (place_left places count x other under)
