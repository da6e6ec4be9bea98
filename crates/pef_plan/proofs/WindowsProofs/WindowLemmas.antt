-- Windows of rows: the minima for the older rows, and the least of all rows.
use Rattle.std.proofs.Common.{◌≡◌, ℕ, zero, suc, ◌+◌, ◌-◌, ◌*◌, ◌<◌, ◌≤◌, inl, inr, min, List, [], ◌∷◌, ◌++◌, length, take, slice_index, refl, ap, sym, ◌∙◌, subst, arith}
use Rattle.std.specs.Prelude.{slice_index_or}
use Rattle.std.proofs.Math.Path.{ap₂}
use Rattle.std.proofs.Math.Seq.{take-append-add}
use Rattle.std.proofs.lemmas.List.{append-nil, length-take-le, take-take, take_all, take_more}
use Rattle.pef_words.proofs.Laws.Numbers.{min_is}
use Rattle.pef_plan.specs.Windows.Windows.{AtMostEach, BestOf, IsOne, LesserOf, LowIn, LowRow, LowToNext, NewerOf, OlderOf, RowAdded, WindowOf, Windowed}
use Rattle.pef_plan.proofs.WindowsProofs.TableLemmas.{mul-le}

each-append : (more v : ℕ) (xs ys : List (List ℕ)) (i : ℕ) → AtMostEach more v xs i → AtMostEach more v ys i → AtMostEach more v (xs ++ ys) i
each-append more v [] ys i a b = b
each-append more v (x ∷ xs) ys i a b = (a.0, each-append more v xs ys i a.1 b)

pub each-lower : (more v w : ℕ) (xs : List (List ℕ)) (i : ℕ) → AtMostEach more v xs i → w ≤ v → AtMostEach more w xs i
each-lower more v w [] i a low = tt
each-lower more v w (x ∷ xs) i a low = (let e = a.0 in omega (arith, e, low), each-lower more v w xs i a.1 low)

-- 1 more on both sides
each-more : (v w : ℕ) (xs : List (List ℕ)) (i : ℕ) → AtMostEach 0 v xs i → w ≤ 1 + v → AtMostEach 1 w xs i
each-more v w [] i a low = tt
each-more v w (x ∷ xs) i a low = (let e = a.0 in omega (arith, e, low), each-more v w xs i a.1 low)

one-more : (v : ℕ) (xs : List (List ℕ)) (i : ℕ) → IsOne 0 v xs i → IsOne 1 (1 + v) xs i
one-more v [] i none = none
one-more v (x ∷ xs) i (inl e) = inl (omega (arith, e))
one-more v (x ∷ xs) i (inr o) = inr (one-more v xs i o)

one-left : (more v : ℕ) (xs ys : List (List ℕ)) (i : ℕ) → IsOne more v xs i → IsOne more v (xs ++ ys) i
one-left more v [] ys i none = absurd none
one-left more v (x ∷ xs) ys i (inl e) = inl e
one-left more v (x ∷ xs) ys i (inr o) = inr (one-left more v xs ys i o)

one-right : (more v : ℕ) (xs ys : List (List ℕ)) (i : ℕ) → IsOne more v ys i → IsOne more v (xs ++ ys) i
one-right more v [] ys i o = o
one-right more v (x ∷ xs) ys i o = inr (one-right more v xs ys i o)

low-both : (xs ys : List (List ℕ)) (i v w : ℕ) → LowIn xs i v → LowIn ys i w → LowIn (xs ++ ys) i (min v w)
low-both xs ys i v w a b = record {
  each = each-append 0 (min v w) xs ys i (each-lower 0 v (min v w) xs i a.each (omega arith)) (each-lower 0 w (min v w) ys i b.each (omega arith));
  one = elim (min_is v w) [
    | inl is ↦ subst (λ (n : ℕ). IsOne 0 n (xs ++ ys) i) (sym is) (one-left 0 v xs ys i a.one)
    | inr is ↦ subst (λ (n : ℕ). IsOne 0 n (xs ++ ys) i) (sym is) (one-right 0 w xs ys i b.one)
  ];
}

row-both : (width : ℕ) (xs ys : List (List ℕ)) (a b s : List ℕ) → LowRow width xs a → LowRow width ys b → LesserOf width a b s → LowRow width (xs ++ ys) s
row-both width xs ys a b s one other is i under =
    subst (λ (v : ℕ). LowIn (xs ++ ys) i v) (sym (is i under)) (low-both xs ys i (slice_index a i) (slice_index b i) (one i under) (other i under))

row-one : (width : ℕ) (s : List ℕ) → LowRow width (s ∷ []) s
row-one width s i under = record { each = (omega arith, tt); one = inl (omega arith) }

-- the better of a number and the least of some rows
best-low : (rows : List (List ℕ)) (first i low : ℕ) → LowIn rows i low → BestOf first rows i (min first (1 + low))
best-low rows first i low l = record {
  first_is = omega arith;
  each = each-more low (min first (1 + low)) rows i l.each (omega arith);
  one = elim (min_is first (1 + low)) [
    | inl is ↦ inl is
    | inr is ↦ inr (subst (λ (n : ℕ). IsOne 1 n rows i) (sym is) (one-more low rows i l.one))
  ];
}

best-both : (older newer : List (List ℕ)) (first i best low : ℕ) → BestOf first older i best → LowIn newer i low → BestOf first (newer ++ older) i (min best (1 + low))
best-both older newer first i best low b l =
    let is = b.first_is in
    record {
      first_is = omega (arith, is);
      each = each-append 1 (min best (1 + low)) newer older i (each-more low (min best (1 + low)) newer i l.each (omega arith)) (each-lower 1 best (min best (1 + low)) older i b.each (omega arith));
      one = elim (min_is best (1 + low)) [
        | inl same ↦ elim b.one [
          | inl first_same ↦ inl (same ∙ first_same)
          | inr one ↦ inr (subst (λ (n : ℕ). IsOne 1 n (newer ++ older) i) (sym same) (one-right 1 best newer older i one))
        ]
        | inr same ↦ inr (subst (λ (n : ℕ). IsOne 1 n (newer ++ older) i) (sym same) (one-left 1 (1 + low) newer older i (one-more low newer i l.one)))
      ];
    }

-- a place in a slot is before the end of the slots
pub slot-inside : (width slots slot i : ℕ) → slot < slots → i < width → slot * width + i < slots * width
slot-inside width slots slot i under inside = let low = mul-le (slot + 1) slots width (omega (arith, under)) in omega (arith, low, inside)

-- rows have numbers
pub some_numbers : (rows width len : ℕ) → 0 < rows → 0 < width → rows * width ≤ len → 0 < len
some_numbers rows width len more wide inside = let low = mul-le 1 rows width (omega (arith, more)) in omega (arith, low, wide, inside)

no_rows : (xs : List (List ℕ)) → length xs ≡ 0 → xs ≡ []
no_rows [] e = refl
no_rows (x ∷ xs) e = absurd (omega (arith, e))

-- no rows
pub window-none : (width limit : ℕ) (w : Windowed) → w.width ≡ width → w.limit ≡ limit → 0 < limit → w.newer ≡ 0 → w.older ≡ 0 → WindowOf width limit [] w
window-none width limit w width_is limit_is some newer older = record {
  width_is = width_is;
  limit_is = limit_is;
  some = some;
  newer = [];
  older = [];
  parts = refl;
  newer_count = sym newer;
  older_count = sym older;
  newer_is = λ n slot i under inside. absurd (omega (arith, under));
  older_is = λ n slot i under slots inside. absurd (omega (arith, under));
  low_is = λ more. absurd (omega (arith, more));
}

-- the oldest row is removed
pub window-pop : (width limit : ℕ) (rows : List (List ℕ)) (w : Windowed) → WindowOf width limit rows w → w.older + w.newer ≡ w.limit → 0 < w.older → WindowOf width limit (take (limit - 1) rows) (record w { older = w.older - 1 })
window-pop width limit rows w o full more =
    let newer_count = o.newer_count in
    let older_count = o.older_count in
    let same = o.limit_is in
    let size : limit - 1 ≡ length o.newer + (w.older - 1) = omega (arith, full, same, more, newer_count) in
    let fewer = length-take-le (w.older - 1) o.older (omega (arith, older_count)) in
    record {
      width_is = o.width_is;
      limit_is = o.limit_is;
      some = o.some;
      newer = o.newer;
      older = take (w.older - 1) o.older;
      parts = ap (take (limit - 1)) o.parts ∙ (ap (λ n. take n (o.newer ++ o.older)) size ∙ take-append-add o.newer o.older (w.older - 1));
      newer_count = newer_count;
      older_count = fewer;
      newer_is = o.newer_is;
      older_is = λ n slot i under slots inside.
          subst (λ (xs : List (List ℕ)). LowIn xs i (slice_index w.values (slot * width + i)))
          (sym (take-take (n + 1) (w.older - 1) o.older (omega (arith, under, fewer))))
          (o.older_is n slot i (omega (arith, under, fewer, older_count)) slots inside);
      low_is = o.low_is;
    }

-- newer rows, each number of which is lowered to the one of the next row
low-at : (width limit : ℕ) (rows : List (List ℕ)) (old new : List ℕ) → NewerOf width rows old → LowToNext width (limit * width) old new → length rows ≡ limit → OlderOf width limit rows new
low-at width limit rows old new newer low full zero slot i under slots inside =
    let end : (slot + 1) * width ≡ limit * width = ap (λ m. m * width) (omega (arith, slots)) in
    let value : slice_index new (slot * width + i) ≡ slice_index (slice_index_or rows 0 []) i = low.last (slot * width + i) (omega (arith, end)) ∙ newer 0 slot i (omega (arith, slots, full)) inside in
    subst (λ (xs : List (List ℕ)). LowIn xs i (slice_index new (slot * width + i))) (sym (take_more rows 0 [] under))
    (subst (λ (v : ℕ). LowIn (slice_index_or rows 0 [] ∷ []) i v) (sym value) (row-one width (slice_index_or rows 0 []) i inside))
low-at width limit rows old new newer low full (suc n) slot i under slots inside =
    let row = slice_index_or rows (suc n) [] in
    let later = low-at width limit rows old new newer low full n (slot + 1) i (omega (arith, under)) (omega (arith, slots)) inside in
    let next : slot * width + i + width ≡ (slot + 1) * width + i = omega arith in
    let count : n + 1 ≡ suc n = omega arith in
    let lowered = low.lower (slot * width + i) (let less = slot-inside width limit (slot + 1) i (omega (arith, slots)) inside in omega (arith, less, next)) in
    let there = ap (slice_index new) next in
    let here = newer (suc n) slot i (omega (arith, slots, full)) inside in
    let value : slice_index new (slot * width + i) ≡ min (slice_index new ((slot + 1) * width + i)) (slice_index row i) = omega (arith, lowered, there, here) in
    subst (λ (xs : List (List ℕ)). LowIn xs i (slice_index new (slot * width + i))) (sym (take_more rows (suc n) [] under))
    (subst (λ (v : ℕ). LowIn (take (suc n) rows ++ row ∷ []) i v) (sym value)
    (low-both (take (suc n) rows) (row ∷ []) i (slice_index new ((slot + 1) * width + i)) (slice_index row i)
    (subst (λ (m : ℕ). LowIn (take m rows) i (slice_index new ((slot + 1) * width + i))) count later)
    (row-one width row i inside)))

-- all newer rows have become older ones
pub window-aged : (width limit : ℕ) (rows : List (List ℕ)) (w : Windowed) (values : List ℕ) → WindowOf width limit rows w → w.newer ≡ w.limit → w.older ≡ 0 → LowToNext w.width (w.limit * w.width) w.values values → WindowOf width limit rows (record w { older = w.limit; newer = 0; values = values })
window-aged width limit rows w values o full none low =
    let newer_count = o.newer_count in
    let alone : rows ≡ o.newer = o.parts ∙ (ap (λ xs. o.newer ++ xs) (no_rows o.older (o.older_count ∙ none)) ∙ append-nil o.newer) in
    let count : length o.newer ≡ limit = newer_count ∙ (full ∙ o.limit_is) in
    let lowered : LowToNext width (limit * width) w.values values = subst (λ (m : ℕ). LowToNext width (m * width) w.values values) o.limit_is (subst (λ (n : ℕ). LowToNext n (w.limit * n) w.values values) o.width_is low) in
    record {
      width_is = o.width_is;
      limit_is = o.limit_is;
      some = o.some;
      newer = [];
      older = o.newer;
      parts = alone;
      newer_count = refl;
      older_count = newer_count ∙ full;
      newer_is = λ n slot i under inside. absurd (omega (arith, under));
      older_is = low-at width limit o.newer w.values values o.newer_is lowered count;
      low_is = λ more. absurd (omega (arith, more));
    }

-- the list of numbers became longer
pub window-same : (width limit : ℕ) (rows : List (List ℕ)) (w : Windowed) (values low : List ℕ) → WindowOf width limit rows w → w.newer * w.width ≤ length w.values → (0 < w.older → w.limit * w.width ≤ length w.values) → ((p : ℕ) → p < length w.values → slice_index values p ≡ slice_index w.values p) → (0 < w.newer → low ≡ w.low) → WindowOf width limit rows (record w { values = values; low = low })
window-same width limit rows w values low o newer_inside older_inside same low_same =
    let newer_count = o.newer_count in
    let older_count = o.older_count in
    let newer_end : w.newer * w.width ≡ w.newer * width = ap (λ n. w.newer * n) o.width_is in
    let older_end : w.limit * w.width ≡ limit * width = ap₂ (λ m n. m * n) o.limit_is o.width_is in
    record {
      width_is = o.width_is;
      limit_is = o.limit_is;
      some = o.some;
      newer = o.newer;
      older = o.older;
      parts = o.parts;
      newer_count = newer_count;
      older_count = older_count;
      newer_is = λ n slot i under inside.
          let less = slot-inside width w.newer slot i (omega (arith, under, newer_count)) inside in
          same (slot * width + i) (omega (arith, less, newer_end, newer_inside)) ∙ o.newer_is n slot i under inside;
      older_is = λ n slot i under slots inside.
          let less = slot-inside width limit slot i (omega (arith, slots)) inside in
          let all = older_inside (omega (arith, under, older_count)) in
          subst (λ (v : ℕ). LowIn (take (n + 1) o.older) i v) (sym (same (slot * width + i) (omega (arith, less, older_end, all)))) (o.older_is n slot i under slots inside);
      low_is = λ more. subst (λ (l : List ℕ). LowRow width o.newer l) (sym (low_same (omega (arith, more, newer_count)))) (o.low_is more);
    }

-- one more row
new_low : (width : ℕ) (newer : List (List ℕ)) (low row new : List ℕ) → (0 < length newer → LowRow width newer low) → (length newer ≡ 0 → (i : ℕ) → i < width → slice_index new i ≡ slice_index row i) → (0 < length newer → LesserOf width low row new) → LowRow width (row ∷ newer) new
new_low width [] low row new before first lesser = λ i under. subst (λ (v : ℕ). LowIn (row ∷ []) i v) (sym (first refl i under)) (row-one width row i under)
new_low width (x ∷ newer) low row new before first lesser =
    let is = lesser (omega arith) in
    row-both width (row ∷ []) (x ∷ newer) row low new (row-one width row) (before (omega arith))
    (λ i under. let e = is i under in omega (arith, e))

pub window-add : (width limit : ℕ) (rows : List (List ℕ)) (w : Windowed) (row values low : List ℕ) → WindowOf width limit rows w → w.older + w.newer < w.limit → length row ≡ w.width → RowAdded row (w.newer * w.width) w.values values → (w.newer ≡ 0 → (i : ℕ) → i < length row → slice_index low i ≡ slice_index row i) → (0 < w.newer → LesserOf (length row) w.low row low) → WindowOf width limit (row ∷ rows) (record w { newer = w.newer + 1; values = values; low = low })
window-add width limit rows w row values low o free wide added first lesser =
    let newer_count = o.newer_count in
    let older_count = o.older_count in
    let same = o.limit_is in
    let size : length row ≡ width = wide ∙ o.width_is in
    let start : w.newer * w.width ≡ w.newer * width = ap (λ n. w.newer * n) o.width_is in
    record {
      width_is = o.width_is;
      limit_is = o.limit_is;
      some = o.some;
      newer = row ∷ o.newer;
      older = o.older;
      parts = ap (λ xs. row ∷ xs) o.parts;
      newer_count = omega (arith, newer_count);
      older_count = older_count;
      newer_is = newer-added width o.newer row w.values values (w.newer * w.width) (ap₂ (λ a b. a * b) (sym newer_count) o.width_is) size added o.newer_is;
      older_is = λ n slot i under slots inside.
          let past = mul-le (w.newer + 1) slot width (omega (arith, under, slots, older_count, free, same)) in
          subst (λ (v : ℕ). LowIn (take (n + 1) o.older) i v) (sym (added.after (slot * width + i) (omega (arith, past, start, size)))) (o.older_is n slot i under slots inside);
      low_is = λ more.
          new_low width o.newer w.low row low o.low_is
          (λ none i under. first (omega (arith, none, newer_count)) i (omega (arith, under, size)))
          (λ some. subst (λ (n : ℕ). LesserOf n w.low row low) size (lesser (omega (arith, some, newer_count))));
    }
  where
    newer-added : (width : ℕ) (newer : List (List ℕ)) (row old new : List ℕ) (start : ℕ) → start ≡ length newer * width → length row ≡ width → RowAdded row start old new → NewerOf width newer old → NewerOf width (row ∷ newer) new
    newer-added width newer row old new start from size added before zero slot i under inside =
        let last : slot ≡ length newer = omega (arith, under) in
        ap (λ n. slice_index new (n + i)) (ap (λ n. n * width) last ∙ sym from) ∙ added.row_is i (omega (arith, inside, size))
    newer-added width newer row old new start from size added before (suc n) slot i under inside =
        let fewer : n + 1 + slot ≡ length newer = omega (arith, under) in
        let less = slot-inside width (length newer) slot i (omega (arith, fewer)) inside in
        added.before (slot * width + i) (omega (arith, less, from)) ∙ before n slot i fewer inside

-- the least of a number and, for each older row, 1 plus the row's number
pub best-none : (width limit : ℕ) (rows : List (List ℕ)) (w : Windowed) (first i : ℕ) → w.older ≡ 0 → (o : WindowOf width limit rows w) → BestOf first o.older i first
best-none width limit rows w first i none o =
    subst (λ (xs : List (List ℕ)). BestOf first xs i first) (sym (no_rows o.older (o.older_count ∙ none)))
    (record { first_is = omega arith; each = tt; one = inl refl })

pub best-older : (width limit : ℕ) (rows : List (List ℕ)) (w : Windowed) (first i : ℕ) → 0 < w.older → w.older ≤ w.limit → i < w.width → (o : WindowOf width limit rows w) → BestOf first o.older i (min first (1 + slice_index w.values ((w.limit - w.older) * w.width + i)))
best-older width limit rows w first i more few under o =
    let older_count = o.older_count in
    let same = o.limit_is in
    let wide = o.width_is in
    let n = w.older - 1 in
    let whole : take (n + 1) o.older ≡ o.older = take_all (n + 1) o.older (omega (arith, older_count)) in
    let place : (w.limit - w.older) * width + i ≡ (w.limit - w.older) * w.width + i = ap (λ m. (w.limit - w.older) * m + i) (sym wide) in
    best-low o.older first i (slice_index w.values ((w.limit - w.older) * w.width + i))
    (subst (λ (xs : List (List ℕ)). LowIn xs i (slice_index w.values ((w.limit - w.older) * w.width + i))) whole
    (subst (λ (p : ℕ). LowIn (take (n + 1) o.older) i (slice_index w.values p)) place
    (o.older_is n (w.limit - w.older) i (omega (arith, older_count, more)) (omega (arith, more, few, same)) (omega (arith, under, wide)))))

-- the least of a number and, for each row, 1 plus the row's number
pub window-best : (width limit : ℕ) (rows : List (List ℕ)) (w : Windowed) (first i best : ℕ) → 0 < w.newer → i < w.width → (o : WindowOf width limit rows w) → BestOf first o.older i best → BestOf first rows i (min best (1 + slice_index w.low i))
window-best width limit rows w first i best some under o older =
    let count = o.newer_count in
    let wide = o.width_is in
    subst (λ (xs : List (List ℕ)). BestOf first xs i (min best (1 + slice_index w.low i))) (sym o.parts)
    (best-both o.older o.newer first i best (slice_index w.low i) older (o.low_is (omega (arith, some, count)) i (omega (arith, under, wide))))

pub window-best_older : (width limit : ℕ) (rows : List (List ℕ)) (w : Windowed) (first i best : ℕ) → w.newer ≡ 0 → (o : WindowOf width limit rows w) → BestOf first o.older i best → BestOf first rows i best
window-best_older width limit rows w first i best none o older =
    subst (λ (xs : List (List ℕ)). BestOf first xs i best) (sym (o.parts ∙ ap (λ xs. xs ++ o.older) (no_rows o.newer (o.newer_count ∙ none)))) older
