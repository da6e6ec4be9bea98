-- The kept form of rows of labels: how many there are, where one is, and one more.
use Rattle.std.proofs.Common.{◌≡◌, ◌≢◌, ◌↔◌, ◌==◌, Bool, false, eqb, inl, inr, ℕ, zero, suc, ◌+◌, ◌-◌, ◌*◌, ◌<◌, ◌≤◌, true, nat_lt, List, [], ◌∷◌, ◌++◌, length, take, drop, replicate, None, Some, refl, ap, sym, ◌∙◌, subst, arith, slice_index, slice_get, length-append, append_assoc}
use Rattle.std.specs.Prelude.{slice_index_or, slice_set}
use Rattle.std.specs.List.{AllByRecursion}
use Rattle.std.proofs.lemmas.Bool.{ltb-true, lt-ltb, and_from, and_parts}
use Rattle.std.proofs.lemmas.Bool.Decides.{Decides-eqb, eqb_tells}
use Rattle.std.proofs.lemmas.Slice.Eq.{slice_eq-Decides}
use Rattle.std.specs.Cmp.Lexicographic.{pointwise}
use Rattle.std.proofs.Math.Path.{ap₂}
use Rattle.std.proofs.lemmas.List.{append-nil, length-set, drop-append-le, drop-drop, drop_all, drop_at, length_push, length-take-le, get_or-append_right, get_or-replicate, get_or_append_left, length-drop, length-replicate, take-append-le, take_all, take-append-drop, nil_from_length}
use Rattle.pef_labels.specs.Kept.RowsKept.{EndsWith, PlaceOf}
use Rattle.pef_labels.specs.Rows.{NeighboursDiffer, RowsFull, RunsFull, rows_from}
use Rattle.pef_labels.specs.Rising.{above_all}

-- how many rows there are up to the last kept one
unfoldable pub last_end : ℕ → List ℕ → ℕ
last_end low [] = low
last_end low (end ∷ ends) = last_end end ends

pub rows-count : (w low : ℕ) (ends values : List ℕ) → above_all low ends ≡ true → length (rows_from w low ends values) + low ≡ last_end low ends
unfolding last_end
rows-count w low [] values up = omega arith
rows-count w low (end ∷ ends) values up =
    let both = and_parts (nat_lt low end) (above_all end ends) up in
    let first = ltb-true low end both.0 in
    let later = rows-count w end ends (drop w values) both.1 in
    omega (arith, first, later, length-append (replicate (end - low) (take w values)) (rows_from w end ends (drop w values)), length-replicate (end - low) (take w values))

pub last_end-get : (low : ℕ) (ends : List ℕ) (end : ℕ) → slice_get ends (length ends - 1) ≡ Some end → last_end low ends ≡ end
unfolding last_end
last_end-get low [] end e = absurd (cc)
last_end-get low (x ∷ []) end e = cc
last_end-get low (x ∷ y ∷ ends) end e =
    let same : length (x ∷ y ∷ ends) - 1 ≡ suc (length ends) = omega arith in
    let again : length (y ∷ ends) - 1 ≡ length ends = omega arith in
    let there : slice_get (x ∷ y ∷ ends) (suc (length ends)) ≡ Some end = sym (ap (slice_get (x ∷ y ∷ ends)) same) ∙ e in
    last_end-get x (y ∷ ends) end (ap (slice_get (y ∷ ends)) again ∙ there)

pub last_end-none : (low : ℕ) (ends : List ℕ) → slice_get ends (length ends - 1) ≡ None → ends ≡ []
last_end-none low [] e = refl
last_end-none low (x ∷ []) e = absurd (cc)
last_end-none low (x ∷ y ∷ ends) e =
    let same : length (x ∷ y ∷ ends) - 1 ≡ suc (length ends) = omega arith in
    let again : length (y ∷ ends) - 1 ≡ length ends = omega arith in
    let there : slice_get (x ∷ y ∷ ends) (suc (length ends)) ≡ None = sym (ap (slice_get (x ∷ y ∷ ends)) same) ∙ e in
    let wrong : y ∷ ends ≡ [] = last_end-none x (y ∷ ends) (ap (slice_get (y ∷ ends)) again ∙ there) in
    absurd (cc)

-- how many rows there are before a kept one
end_before : ℕ → List ℕ → ℕ → ℕ
end_before low ends zero = low
end_before low [] (suc q) = low
end_before low (end ∷ ends) (suc q) = end_before end ends q

end_before-zero : (low : ℕ) (ends : List ℕ) → end_before low ends 0 ≡ low
unfolding end_before
end_before-zero low ends = refl

end_before-suc : (low : ℕ) (ends : List ℕ) (q : ℕ) → q < length ends → end_before low ends (suc q) ≡ slice_index ends q
unfolding end_before
end_before-suc low [] q under = absurd (omega arith)
end_before-suc low (end ∷ ends) zero under = refl
end_before-suc low (end ∷ ends) (suc q) under = end_before-suc end ends q (omega arith)

end_before-above : (low : ℕ) (ends : List ℕ) (q : ℕ) → above_all low ends ≡ true → low ≤ end_before low ends q
unfolding end_before
end_before-above low ends zero up = omega arith
end_before-above low [] (suc q) up = omega arith
end_before-above low (end ∷ ends) (suc q) up =
    let both = and_parts (nat_lt low end) (above_all end ends) up in
    let first = ltb-true low end both.0 in
    let later = end_before-above end ends q both.1 in
    omega (arith, first, later)

-- the row at a place, by the kept row that it belongs to
rows-at : (w low : ℕ) (ends values : List ℕ) (q j : ℕ) → above_all low ends ≡ true → q < length ends → end_before low ends q ≤ j → j < slice_index ends q → slice_index_or (rows_from w low ends values) (j - low) [] ≡ take w (drop (q * w) values)
unfolding end_before
rows-at w low [] values q j up under after before = absurd (omega arith)
rows-at w low (end ∷ ends) values zero j up under after before =
    let start : zero * w ≡ 0 = omega arith in
    let inside : j - low < end - low = omega arith in
    get_or_append_left (replicate (end - low) (take w values)) (rows_from w end ends (drop w values)) [] (j - low) (omega (arith, length-replicate (end - low) (take w values)))
    ∙ (get_or-replicate (end - low) (j - low) (take w values) [] inside
    ∙ ap (λ n. take w (drop n values)) (sym start))
rows-at w low (end ∷ ends) values (suc q) j up under after before =
    let both = and_parts (nat_lt low end) (above_all end ends) up in
    let first = ltb-true low end both.0 in
    let past = end_before-above end ends q both.1 in
    let rest : (j - low) - (end - low) ≡ j - end = omega (arith, first, past) in
    let start : w + q * w ≡ suc q * w = omega arith in
    get_or-append_right (replicate (end - low) (take w values)) (rows_from w end ends (drop w values)) (end - low) (j - low) [] (length-replicate (end - low) (take w values)) (omega (arith, first, past))
    ∙ (ap (λ n. slice_index_or (rows_from w end ends (drop w values)) n []) rest
    ∙ (rows-at w end ends (drop w values) q j both.1 (omega arith) after before
    ∙ ap (take w) (drop-drop (q * w) w values ∙ ap (λ n. drop n values) start)))

-- each row has the width
copies_wide : (w n : ℕ) (row : List ℕ) (rows : List (List ℕ)) → length row ≡ w → AllByRecursion (λ (r : List ℕ). length r ≡ w) rows → AllByRecursion (λ (r : List ℕ). length r ≡ w) (replicate n row ++ rows)
copies_wide w zero row rows wide others = others
copies_wide w (suc n) row rows wide others = (wide, copies_wide w n row rows wide others)

wide_from : (w low : ℕ) (ends values : List ℕ) → length values ≡ w * length ends → AllByRecursion (λ (r : List ℕ). length r ≡ w) (rows_from w low ends values)
wide_from w low [] values full = tt
wide_from w low (end ∷ ends) values full =
    let product : w * length (end ∷ ends) ≡ w + w * length ends = omega arith in
    copies_wide w (end - low) (take w values) (rows_from w end ends (drop w values))
    (length-take-le w values (omega (arith, full, product)))
    (wide_from w end ends (drop w values) (omega (arith, full, product, length-drop w values)))

pub rows-wide : (w : ℕ) (ends values : List ℕ) → RowsFull w ends values → AllByRecursion (λ (r : List ℕ). length r ≡ w) (rows_from w 0 ends values)
rows-wide w ends values full = wide_from w 0 ends values full.full

-- a row this many times, and more
replicate_more : (m n : ℕ) (row : List ℕ) → replicate (m + n) row ≡ replicate m row ++ replicate n row
replicate_more zero n row = let e : zero + n ≡ n = omega arith in rw e refl
replicate_more (suc m) n row = let e : suc m + n ≡ suc (m + n) = omega arith in rw e (ap (λ rows. row ∷ rows) (replicate_more m n row))

-- a row that differs from the last one
pub rows-push : (w low end : ℕ) (ends values row : List ℕ) → length values ≡ w * length ends → length row ≡ w → rows_from w low (ends ++ end ∷ []) (values ++ row) ≡ rows_from w low ends values ++ replicate (end - last_end low ends) row
unfolding last_end
rows-push w low end [] values row full wide =
    let none : values ≡ [] = nil_from_length values (omega (arith, full)) in
    let whole : take w ([] ++ row) ≡ row = ap (λ n. take n row) (sym wide) ∙ take_all (length row) row (omega arith) in
    rw none (append-nil (replicate (end - low) (take w row)) ∙ ap (replicate (end - low)) whole)
rows-push w low end (x ∷ ends) values row full wide =
    let long : w ≤ length values = omega (arith, full) in
    let others : length (drop w values) ≡ w * length ends = omega (arith, full, length-drop w values) in
    ap₂ (λ a b. replicate (x - low) a ++ rows_from w x (ends ++ end ∷ []) b) (take-append-le w values row long) (drop-append-le w values row long)
    ∙ (ap (λ rows. replicate (x - low) (take w values) ++ rows) (rows-push w x end ends (drop w values) row others wide)
    ∙ sym (append_assoc (replicate (x - low) (take w values)) (rows_from w x ends (drop w values)) (replicate (end - last_end x ends) row)))

-- and more of the last one
pub rows-more : (w low end n : ℕ) (ends values row : List ℕ) → above_all low ends ≡ true → length ends ≡ suc n → last_end low ends ≤ end → take w (drop (n * w) values) ≡ row → rows_from w low (slice_set ends n end) values ≡ rows_from w low ends values ++ replicate (end - last_end low ends) row
unfolding last_end
rows-more w low end n [] values row up count after is = absurd (omega (arith, count))
rows-more w low end zero (x ∷ []) values row up count after is =
    let first = ltb-true low x (and_parts (nat_lt low x) (above_all x []) up).0 in
    let start : zero * w ≡ 0 = omega arith in
    let same : take w values ≡ row = ap (λ n. take w (drop n values)) (sym start) ∙ is in
    let sum : end - low ≡ (x - low) + (end - x) = omega (arith, first, after) in
    append-nil (replicate (end - low) (take w values))
    ∙ (ap (λ n. replicate n (take w values)) sum
    ∙ (replicate_more (x - low) (end - x) (take w values)
    ∙ ap₂ (λ a b. a ++ replicate (end - x) b) (sym (append-nil (replicate (x - low) (take w values)))) same))
rows-more w low end zero (x ∷ y ∷ ends) values row up count after is = absurd (omega (arith, count))
rows-more w low end (suc n) (x ∷ ends) values row up count after is =
    let both = and_parts (nat_lt low x) (above_all x ends) up in
    let start : w + n * w ≡ suc n * w = omega arith in
    let there : take w (drop (n * w) (drop w values)) ≡ row = ap (take w) (drop-drop (n * w) w values ∙ ap (λ m. drop m values) start) ∙ is in
    ap (λ rows. replicate (x - low) (take w values) ++ rows) (rows-more w x end n ends (drop w values) row both.1 (omega (arith, count)) after there)
    ∙ sym (append_assoc (replicate (x - low) (take w values)) (rows_from w x ends (drop w values)) (replicate (end - last_end x ends) row))

-- ends that rise with one more, and with a greater last one
pub rising-push : (low end : ℕ) (ends : List ℕ) → above_all low ends ≡ true → last_end low ends < end → above_all low (ends ++ end ∷ []) ≡ true
unfolding last_end
rising-push low end [] up after = and_from (nat_lt low end) true (lt-ltb low end after) refl
rising-push low end (x ∷ ends) up after =
    let both = and_parts (nat_lt low x) (above_all x ends) up in
    and_from (nat_lt low x) (above_all x (ends ++ end ∷ [])) both.0 (rising-push x end ends both.1 after)

pub rising-more : (low end n : ℕ) (ends : List ℕ) → above_all low ends ≡ true → length ends ≡ suc n → last_end low ends < end → above_all low (slice_set ends n end) ≡ true
unfolding last_end
rising-more low end n [] up count after = absurd (omega (arith, count))
rising-more low end zero (x ∷ []) up count after =
    let first = ltb-true low x (and_parts (nat_lt low x) (above_all x []) up).0 in
    and_from (nat_lt low end) true (lt-ltb low end (omega (arith, first))) refl
rising-more low end zero (x ∷ y ∷ ends) up count after = absurd (omega (arith, count))
rising-more low end (suc n) (x ∷ ends) up count after =
    let both = and_parts (nat_lt low x) (above_all x ends) up in
    and_from (nat_lt low x) (above_all x (slice_set ends n end)) both.0 (rising-more x end n ends both.1 (omega (arith, count)) after)

-- how many rows there are, by the end of the last kept one
pub rows-some : (w end : ℕ) (ends values : List ℕ) → RowsFull w ends values → slice_get ends (length ends - 1) ≡ Some end → end ≡ length (rows_from w 0 ends values)
rows-some w end ends values full e =
    let is = last_end-get 0 ends end e in
    let count = rows-count w 0 ends values full.rising in
    omega (arith, is, count)

pub rows-none : (w : ℕ) (ends values : List ℕ) → slice_get ends (length ends - 1) ≡ None → 0 ≡ length (rows_from w 0 ends values)
rows-none w ends values e = rw (last_end-none 0 ends e) refl

-- one more row, if it is kept
last_is : (w : ℕ) (ends values : List ℕ) → RowsFull w ends values → last_end 0 ends ≡ length (rows_from w 0 ends values)
last_is w ends values full = let count = rows-count w 0 ends values full.rising in omega (arith, count)

-- rows of which each but the last differs from the one after it, and one that differs from the last
differ-push : (w n : ℕ) (values row : List ℕ) → length values ≡ w * suc n → length row ≡ w → NeighboursDiffer w n values → ((front : List ℕ) → values ≢ front ++ row) → NeighboursDiffer w (suc n) (values ++ row)
differ-push w zero values row full wide differ other =
    let whole : take w values ≡ values = take_all w values (omega (arith, full)) in
    let none : drop w values ≡ [] = drop_all w values (omega (arith, full)) in
    let first : take w (values ++ row) ≡ values = take-append-le w values row (omega (arith, full)) ∙ whole in
    let second : take w (drop w (values ++ row)) ≡ row =
    ap (take w) (drop-append-le w values row (omega (arith, full)) ∙ ap (λ vs. vs ++ row) none) ∙ take_all w row (omega (arith, wide)) in
    (λ same. other [] (sym first ∙ (same ∙ second)), tt)
differ-push w (suc n) values row full wide differ other =
    let rest : length (drop w values) ≡ w * suc n = omega (arith, full, length-drop w values) in
    let first : take w (values ++ row) ≡ take w values = take-append-le w values row (omega (arith, full)) in
    let behind : drop w (values ++ row) ≡ drop w values ++ row = drop-append-le w values row (omega (arith, full)) in
    let second : take w (drop w values ++ row) ≡ take w (drop w values) = take-append-le w (drop w values) row (omega (arith, rest)) in
    let later = differ-push w n (drop w values) row rest wide differ.1
    (λ front is. other (take w values ++ front) (sym (take-append-drop w values) ∙ (ap (λ vs. take w values ++ vs) is ∙ sym (append_assoc (take w values) front row)))) in
    (λ same. differ.0 (sym first ∙ (same ∙ (ap (take w) behind ∙ second))), subst (λ (vs : List ℕ). NeighboursDiffer w (suc n) vs) (sym behind) later)

pub full-push : (w end : ℕ) (ends values row : List ℕ) → RowsFull w ends values → length row ≡ w → length (rows_from w 0 ends values) < end → (0 < length ends → (front : List ℕ) → values ≢ front ++ row) → RowsFull w (ends ++ end ∷ []) (values ++ row)
full-push w end [] values row full wide after other = record {
  rising = rising-push 0 end [] full.rising (omega (arith, last_is w [] values full));
  full = (let none = full.full in omega (arith, none, wide, length-append values row));
  apart = tt;
}
full-push w end (x ∷ ends) values row full wide after other =
    let count : length (x ∷ ends) - 1 ≡ length ends = omega arith in
    let more : length ((x ∷ ends) ++ end ∷ []) - 1 ≡ suc (length ends) = omega (arith, length_push (x ∷ ends) end) in
    let long : length values ≡ w * suc (length ends) = full.full in
    record {
      rising = rising-push 0 end (x ∷ ends) full.rising (omega (arith, last_is w (x ∷ ends) values full));
      full = rw (length_push (x ∷ ends) end) (omega (arith, full.full, wide, length-append values row));
      apart = subst (λ (n : ℕ). NeighboursDiffer w n (values ++ row)) (sym more)
          (differ-push w (length ends) values row long wide (subst (λ (n : ℕ). NeighboursDiffer w n values) count full.apart) (other (omega arith)));
    }

pub rows-pushed : (w end : ℕ) (ends values row : List ℕ) → RowsFull w ends values → length row ≡ w → rows_from w 0 (ends ++ end ∷ []) (values ++ row) ≡ rows_from w 0 ends values ++ replicate (end - length (rows_from w 0 ends values)) row
rows-pushed w end ends values row full wide =
    rows-push w 0 end ends values row full.full wide
    ∙ ap (λ n. rows_from w 0 ends values ++ replicate (end - n) row) (last_is w ends values full)

-- more of the last row
pub full-more : (w end n : ℕ) (ends values : List ℕ) → RowsFull w ends values → length ends ≡ suc n → length (rows_from w 0 ends values) < end → RowsFull w (slice_set ends n end) values
full-more w end n ends values full count after = record {
  rising = rising-more 0 end n ends full.rising count (omega (arith, after, last_is w ends values full));
  full = full.full ∙ ap (λ m. w * m) (sym (length-set ends n end));
  apart = subst (λ (m : ℕ). NeighboursDiffer w (m - 1) values) (sym (length-set ends n end)) full.apart;
}

last_row : (w n : ℕ) (ends values front row : List ℕ) → RowsFull w ends values → length ends ≡ suc n → length row ≡ w → values ≡ front ++ row → take w (drop (n * w) values) ≡ row
last_row w n ends values front row full count wide is =
    let product : w * length ends ≡ w * suc n = ap (λ m. w * m) count in
    let long : length values ≡ length front + length row = ap length is ∙ length-append front row in
    let before : length front ≡ n * w = omega (arith, full.full, product, wide, long) in
    ap (λ vs. take w (drop (n * w) vs)) is
    ∙ (ap (take w) (drop_at front row (n * w) before)
    ∙ take_all w row (omega (arith, wide)))

pub rows-many_more : (w end n : ℕ) (ends values row : List ℕ) → RowsFull w ends values → length ends ≡ suc n → length row ≡ w → EndsWith ends values row → length (rows_from w 0 ends values) ≤ end → rows_from w 0 (slice_set ends n end) values ≡ rows_from w 0 ends values ++ replicate (end - length (rows_from w 0 ends values)) row
rows-many_more w end n ends values row full count wide last after =
    rows-more w 0 end n ends values row full.rising count (omega (arith, after, last_is w ends values full)) (last_row w n ends values last.front row full count wide last.is)
    ∙ ap (λ m. rows_from w 0 ends values ++ replicate (end - m) row) (last_is w ends values full)

-- rows to iterate over
differ-next : (w end : ℕ) (ends values : List ℕ) → NeighboursDiffer w (length (end ∷ ends) - 1) values → NeighboursDiffer w (length ends - 1) (drop w values)
differ-next w end [] values differ = tt
differ-next w end (x ∷ ends) values differ =
    let more : length (end ∷ x ∷ ends) - 1 ≡ suc (length ends) = omega arith in
    let fewer : length ends ≡ length (x ∷ ends) - 1 = omega arith in
    subst (λ (n : ℕ). NeighboursDiffer w n (drop w values)) fewer (subst (λ (n : ℕ). NeighboursDiffer w n values) more differ).1

pub runs-next : (w passed end : ℕ) (ends rest values : List ℕ) → RunsFull w passed ends values → ends ≡ end ∷ rest → RunsFull w end rest (drop w values)
runs-next w passed end [] rest values full is = absurd (cc)
runs-next w passed end (x ∷ xs) rest values full is =
    let first : x ≡ end = cc in
    let others : xs ≡ rest = cc in
    let product : w * length (x ∷ xs) ≡ w + w * length xs = omega arith in
    let same : w * length xs ≡ w * length rest = ap (λ (es : List ℕ). w * length es) others in
    record {
      rising = subst (λ (e : ℕ). above_all e rest ≡ true) first (subst (λ (es : List ℕ). above_all x es ≡ true) others (and_parts (nat_lt passed x) (above_all x xs) full.rising).1);
      full = omega (arith, full.full, product, same, length-drop w values);
      apart = subst (λ (es : List ℕ). NeighboursDiffer w (length es - 1) (drop w values)) others (differ-next w x xs values full.apart);
    }

-- the first of the kept rows that are left ends after the rows that were passed
pub run-rises : (w passed end : ℕ) (ends rest values : List ℕ) → RunsFull w passed ends values → ends ≡ end ∷ rest → passed < end
run-rises w passed end ends rest values full is =
    let up = subst (λ (es : List ℕ). above_all passed es ≡ true) is full.rising in
    ltb-true passed end (and_parts (nat_lt passed end) (above_all end rest) up).0

-- the rows after a run begin with another one
begins_otherwise : (w passed end : ℕ) (rest values : List ℕ) → RunsFull w passed (end ∷ rest) values → (others : List (List ℕ)) → rows_from w end rest (drop w values) ≢ take w values ∷ others
begins_otherwise w passed end [] values full others is = absurd (cc)
begins_otherwise w passed end (x ∷ rest) values full others is =
    let more : length (end ∷ x ∷ rest) - 1 ≡ suc (length rest) = omega arith in
    let differ = (subst (λ (n : ℕ). NeighboursDiffer w n values) more full.apart).0 in
    let up = (and_parts (nat_lt passed end) (above_all end (x ∷ rest)) full.rising).1 in
    let above = ltb-true end x (and_parts (nat_lt end x) (above_all x rest) up).0 in
    let count : x - end ≡ suc (x - end - 1) = omega (arith, above) in
    let rows = rows_from w x rest (drop w (drop w values)) in
    let here : replicate (suc (x - end - 1)) (take w (drop w values)) ++ rows ≡ take w values ∷ others = ap (λ n. replicate n (take w (drop w values)) ++ rows) (sym count) ∙ is in
    differ (cc)

pub runs-whole : (w passed end : ℕ) (ends rest values : List ℕ) → RunsFull w passed ends values → ends ≡ end ∷ rest → (others : List (List ℕ)) → rows_from w end rest (drop w values) ≢ take w values ∷ others
runs-whole w passed end ends rest values full is =
    begins_otherwise w passed end rest values (subst (λ (es : List ℕ). RunsFull w passed es values) is full)

-- the result of `starts_with` on the rows after a row
pub starts_same : (w : ℕ) (values : List ℕ) (answer : Bool) → w ≤ length values → answer ≡ pointwise eqb (take w values) (take (length (take w values)) (drop w values)) → (answer ≡ true) ↔ (take w values ≡ take w (drop w values))
starts_same w values answer long is =
    slice_eq-Decides Decides-eqb (take w values) (take w (drop w values)) answer (is ∙ ap (λ n. pointwise eqb (take w values) (take n (drop w values))) (length-take-le w values long))

-- a row that differs from the one after it, or doesn't, and those after both
pub differ_here : (w left : ℕ) (values : List ℕ) → 0 < left → NeighboursDiffer w left values → take w values ≢ take w (drop w values)
differ_here w zero values some differ = absurd (omega (arith, some))
differ_here w (suc n) values some differ = differ.0

pub differ_later : (w left : ℕ) (values : List ℕ) → 0 < left → NeighboursDiffer w left values → NeighboursDiffer w (left - 1) (drop w values)
differ_later w zero values some differ = absurd (omega (arith, some))
differ_later w (suc n) values some differ = let less : n ≡ suc n - 1 = omega arith in subst (λ (m : ℕ). NeighboursDiffer w m (drop w values)) less differ.1

pub differ_both : (w left : ℕ) (values : List ℕ) → 0 < left → take w values ≢ take w (drop w values) → NeighboursDiffer w (left - 1) (drop w values) → NeighboursDiffer w left values
differ_both w zero values some here later = absurd (omega (arith, some))
differ_both w (suc n) values some here later = let less : suc n - 1 ≡ n = omega arith in (here, subst (λ (m : ℕ). NeighboursDiffer w m (drop w values)) less later)

pub long_rows : (w left n : ℕ) → 0 < left → w * left ≤ n → (w ≤ n) × (w * (left - 1) ≤ n - w)
long_rows w zero n some long = absurd (omega (arith, some))
long_rows w (suc left) n some long = let less : w * (suc left - 1) ≡ w * left = ap (λ m. w * m) (omega arith) in (omega (arith, long), omega (arith, long, less))

-- an empty list is one without elements
pub some_there : (n : ℕ) → (n == 0) ≡ false → 0 < n
some_there zero none = absurd (cc)
some_there (suc n) none = omega arith

-- the end of the last kept row
last_end-at : (low : ℕ) (ends : List ℕ) → 0 < length ends → slice_index ends (length ends - 1) ≡ last_end low ends
unfolding last_end
last_end-at low [] some = absurd (omega (arith, some))
last_end-at low (x ∷ []) some = refl
last_end-at low (x ∷ y ∷ ends) some =
    let same : length (x ∷ y ∷ ends) - 1 ≡ suc (length ends) = omega arith in
    let again : length (y ∷ ends) - 1 ≡ length ends = omega arith in
    ap (slice_index (x ∷ y ∷ ends)) same ∙ (ap (slice_index (y ∷ ends)) (sym again) ∙ last_end-at x (y ∷ ends) (omega arith))

-- if there is a row, one is kept
pub ends_some : (w : ℕ) (ends values : List ℕ) (index : ℕ) → index < length (rows_from w 0 ends values) → 0 < length ends
ends_some w [] values index inside = absurd (omega (arith, inside))
ends_some w (x ∷ ends) values index inside = omega arith

-- ends that rise don't fall
rising-above : (low : ℕ) (ends : List ℕ) (k d : ℕ) → above_all low ends ≡ true → k < length ends → low ≤ slice_index_or ends k d
rising-above low [] k d up under = absurd (omega (arith, under))
rising-above low (x ∷ ends) zero d up under = let first = ltb-true low x (and_parts (nat_lt low x) (above_all x ends) up).0 in omega (arith, first)
rising-above low (x ∷ ends) (suc k) d up under =
    let both = and_parts (nat_lt low x) (above_all x ends) up in
    let first = ltb-true low x both.0 in
    let later = rising-above x ends k d both.1 (omega (arith, under)) in
    omega (arith, first, later)

pub rising-sorted : (low : ℕ) (ends : List ℕ) → above_all low ends ≡ true → (i j d : ℕ) → i ≤ j → j < length ends → slice_index_or ends i d ≤ slice_index_or ends j d
rising-sorted low [] up i j d order under = absurd (omega (arith, under))
rising-sorted low (x ∷ ends) up zero zero d order under = omega arith
rising-sorted low (x ∷ ends) up zero (suc j) d order under = rising-above x ends j d (and_parts (nat_lt low x) (above_all x ends) up).1 (omega (arith, under))
rising-sorted low (x ∷ ends) up (suc i) zero d order under = absurd (omega (arith, order))
rising-sorted low (x ∷ ends) up (suc i) (suc j) d order under = rising-sorted x ends (and_parts (nat_lt low x) (above_all x ends) up).1 i j d (omega (arith, order)) (omega (arith, under))

-- the first end after an index
pub placed : (w : ℕ) (ends values : List ℕ) (index place : ℕ) → RowsFull w ends values → index < length (rows_from w 0 ends values) → place ≤ length ends → ((k : ℕ) → k < length ends → k < place → slice_index ends k ≤ index) → ((k : ℕ) → k < length ends → place ≤ k → index < slice_index ends k) → PlaceOf ends index place
placed w ends values index place full inside bound before after = record { under = there; before = λ k below. before k (omega (arith, below, there)) below; here = after place there (omega arith) }
  where
    there : place < length ends
    there =
        elim (eqb_tells place (length ends)) [
          | inl same ↦
              (let more = ends_some w ends values index inside in
              let same = same.1 in
              let last = before (length ends - 1) (omega (arith, more)) (omega (arith, more, same)) in
              let is = last_end-at 0 ends more in
              let count = last_is w ends values full in
              absurd (omega (arith, last, is, inside, count)))
          | inr other ↦ (let apart = other.1 in omega (arith, bound, apart))
        ]

-- the row at an index, by the kept row that ends first after it
before_at : (ends : List ℕ) (place index : ℕ) → place < length ends → ((k : ℕ) → suc k ≡ place → slice_index ends k ≤ index) → end_before 0 ends place ≤ index
before_at ends zero index under before = let none = end_before-zero 0 ends in omega (arith, none)
before_at ends (suc k) index under before =
    let is = end_before-suc 0 ends k (omega (arith, under)) in
    let low = before k refl in
    omega (arith, is, low)

pub row-at : (w : ℕ) (ends values : List ℕ) (place index : ℕ) → RowsFull w ends values → place < length ends → ((k : ℕ) → suc k ≡ place → slice_index ends k ≤ index) → index < slice_index ends place
    → take w (drop (place * w) values) ≡ slice_index_or (rows_from w 0 ends values) index []
row-at w ends values place index full under before here =
    let same : index - 0 ≡ index = omega arith in
    sym (rows-at w 0 ends values place index full.rising under (before_at ends place index under before) here)
    ∙ ap (λ n. slice_index_or (rows_from w 0 ends values) n []) same

pub row-placed : (w : ℕ) (ends values : List ℕ) (index place : ℕ) → RowsFull w ends values → PlaceOf ends index place → take w (drop (place * w) values) ≡ slice_index_or (rows_from w 0 ends values) index []
row-placed w ends values index place full at =
    row-at w ends values place index full at.under (λ k is. at.before k (omega (arith, is))) at.here
