-- Rows of a table: their number, the row at an index, and one more row.
use Rattle.std.proofs.Common.{◌≡◌, ℕ, zero, suc, ◌+◌, ◌*◌, ◌<◌, ◌≤◌, List, [], ◌∷◌, ◌++◌, length, take, drop, refl, ap, sym, ◌∙◌, arith}
use Rattle.std.specs.Prelude.{slice_index_or}
use Rattle.std.proofs.Math.Path.{ap₂}
use Rattle.std.proofs.Math.Seq.{drop-append_seam, take-append_seam}
use Rattle.std.proofs.lemmas.List.{append-nil, drop-drop, drop-take, drop_all, take-take, take_all}
use Rattle.pef_plan.specs.Windows.Tables.{rows_of}

pub rows_count : (n w : ℕ) (values : List ℕ) → length (rows_of n w values) ≡ n
rows_count zero w values = refl
rows_count (suc n) w values = ap suc (rows_count n w (drop w values))

-- the row at an index
pub rows-at : (n w i : ℕ) (values : List ℕ) → i < n → slice_index_or (rows_of n w values) i [] ≡ take w (drop (i * w) values)
rows-at zero w i values under = absurd (omega (arith, under))
rows-at (suc n) w zero values under = let start : 0 ≡ zero * w = omega arith in ap (λ k. take w (drop k values)) start
rows-at (suc n) w (suc i) values under =
    let start : w + i * w ≡ suc i * w = omega arith in
    rows-at n w i (drop w values) (omega (arith, under))
    ∙ ap (take w) (drop-drop (i * w) w values ∙ ap (λ k. drop k values) start)

-- the first rows
rows-take : (k n w : ℕ) (values : List ℕ) → k ≤ n → rows_of k w (take (k * w) values) ≡ take k (rows_of n w values)
rows-take zero n w values few = refl
rows-take (suc k) zero w values few = absurd (omega (arith, few))
rows-take (suc k) (suc n) w values few =
    let size : suc k * w ≡ w + k * w = omega arith in
    ap₂ (λ r rs. r ∷ rs) (take-take w (suc k * w) values (omega (arith, size)))
    (ap (rows_of k w) (ap (λ m. drop w (take m values)) size ∙ drop-take w (k * w) values) ∙ rows-take k n w (drop w values) (omega (arith, few)))

-- the rows are those of their own numbers alone
rows-whole : (n w : ℕ) (values : List ℕ) → rows_of n w (take (n * w) values) ≡ rows_of n w values
rows-whole n w values = rows-take n n w values (omega arith) ∙ take_all n (rows_of n w values) (let count = rows_count n w values in omega (arith, count))

rows-same : (n w : ℕ) (new old : List ℕ) → take (n * w) new ≡ take (n * w) old → rows_of n w new ≡ rows_of n w old
rows-same n w new old same = sym (rows-whole n w new) ∙ (ap (rows_of n w) same ∙ rows-whole n w old)

-- one more row
rows-more : (n w : ℕ) (values : List ℕ) → rows_of (n + 1) w values ≡ rows_of n w values ++ take w (drop (n * w) values) ∷ []
rows-more zero w values =
    let start : 0 ≡ zero * w = omega arith in
    ap (λ k. take w (drop k values) ∷ []) start
rows-more (suc n) w values =
    let more : suc n + 1 ≡ suc (n + 1) = omega arith in
    let start : w + n * w ≡ suc n * w = omega arith in
    ap (λ k. rows_of k w values) more
    ∙ ap (λ rs. take w values ∷ rs) (rows-more n w (drop w values)
    ∙ ap (λ vs. rows_of n w (drop w values) ++ take w vs ∷ []) (drop-drop (n * w) w values ∙ ap (λ k. drop k values) start))

pub rows-added : (n w : ℕ) (old row : List ℕ) → n * w ≡ length old → length row ≡ w → rows_of (n + 1) w (old ++ row) ≡ rows_of n w old ++ row ∷ []
rows-added n w old row full wide =
    let front : take (n * w) (old ++ row) ≡ take (n * w) old =
    ap (λ k. take k (old ++ row)) full ∙ (take-append_seam old row ∙ (sym (take_all (length old) old (omega arith)) ∙ ap (λ k. take k old) (sym full))) in
    rows-more n w (old ++ row)
    ∙ ap₂ (λ rs r. rs ++ r ∷ []) (rows-same n w (old ++ row) old front)
    (ap (take w) (ap (λ k. drop k (old ++ row)) full ∙ drop-append_seam old row) ∙ take_all w row (omega (arith, wide)))

pub mul-le : (a b w : ℕ) → a ≤ b → a * w ≤ b * w
mul-le zero b w low = omega arith
mul-le (suc a) zero w low = absurd (omega (arith, low))
mul-le (suc a) (suc b) w low = let less = mul-le a b w (omega (arith, low)) in omega (arith, less)

-- the position of a row among the numbers
pub row_inside : (i n w : ℕ) (values : List ℕ) → i < length (rows_of n w values) → n * w ≡ length values → i * w + w ≤ length values
row_inside i n w values under full =
    let count = rows_count n w values in
    let low = mul-le (i + 1) n w (omega (arith, under, count)) in
    omega (arith, low, full)

-- a slice that is replaced as a whole
pub same_slice : (n : ℕ) (new old : List ℕ) → length new ≡ n → length old ≡ n → take n (new ++ drop (length new) old) ≡ new
same_slice n new old is was =
    let none : drop (length new) old ≡ [] = drop_all (length new) old (omega (arith, is, was)) in
    ap (λ xs. take n (new ++ xs)) none ∙ (ap (take n) (append-nil new) ∙ take_all n new (omega (arith, is)))
