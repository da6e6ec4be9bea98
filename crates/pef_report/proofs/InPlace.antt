-- Where errors and notes are printed among rows.
use Rattle.std.proofs.Common.{◌≡◌, ◌∙◌, ℕ, suc, ◌^◌, ◌<◌, ◌≤◌, Bool, true, false, cond, List, [], ◌∷◌, ◌++◌, length, take, drop, inl, inr, refl, sym, ap, subst, arith, append_assoc}
use Rattle.std.specs.Prelude.{nat_lt, slice_index_or}
use Rattle.std.specs.List.{AllByRecursion}
use Rattle.std.specs.List.Sorted.{IsNonDecreasingBy}
use Rattle.std.proofs.lemmas.Bool.{cases_lt, le-ltb, lt-ltb}
use Rattle.pef_words.proofs.Laws.Lists.{all-weaker}
use Rattle.pef_inspect.specs.declared.finding.Finding.{Finding}
use Rattle.pef_report.specs.Inspection.{Row, finding_text, findings_text, merged_left, merged_text, row_parts, rows_of}
use Rattle.pef_report.specs.Order.{after, before, count_before, finding_rank}
use Rattle.pef_report.specs.Places.{PrintsInPlace, Rises, whole_text}
use Rattle.pef_report.specs.Readable.{readable_at}
use Rattle.pef_report.proofs.Merging.{findings_text-append}
use Rattle.pef_report.proofs.Rising.{own-rank, rows_rise}

-- which findings are before a rank is decided by those up to the first one that isn't
before-skip : (rank : ℕ) (xs : List Finding) (f : Finding) (ys : List Finding) → rank ≤ finding_rank f → before rank (xs ++ f ∷ ys) ≡ before rank xs
before-skip rank [] f ys past = rw (le-ltb (finding_rank f) rank past) refl
before-skip rank (x ∷ xs) f ys past = by (nat_lt (finding_rank x) rank) (before-skip rank xs f ys past)
  where
    by : (b : Bool) → before rank (xs ++ f ∷ ys) ≡ before rank xs
        → take (cond b (suc (count_before rank (xs ++ f ∷ ys))) 0) (x ∷ (xs ++ f ∷ ys)) ≡ take (cond b (suc (count_before rank xs)) 0) (x ∷ xs)
    by true same = ap (λ fs. x ∷ fs) same
    by false same = refl

after-skip : (rank : ℕ) (xs : List Finding) (f : Finding) (ys : List Finding) → rank ≤ finding_rank f → after rank (xs ++ f ∷ ys) ≡ after rank xs ++ f ∷ ys
after-skip rank [] f ys past = rw (le-ltb (finding_rank f) rank past) refl
after-skip rank (x ∷ xs) f ys past = by (nat_lt (finding_rank x) rank) (after-skip rank xs f ys past)
  where
    by : (b : Bool) → after rank (xs ++ f ∷ ys) ≡ after rank xs ++ f ∷ ys
        → drop (cond b (suc (count_before rank (xs ++ f ∷ ys))) 0) (x ∷ (xs ++ f ∷ ys)) ≡ drop (cond b (suc (count_before rank xs)) 0) (x ∷ xs) ++ f ∷ ys
    by true same = same
    by false same = refl

-- findings that all have ranks below one are before it
before-all : (rank : ℕ) (xs zs : List Finding) → AllByRecursion (λ x. finding_rank x < rank) xs → before rank (xs ++ zs) ≡ xs ++ before rank zs
before-all rank [] zs low = refl
before-all rank (x ∷ xs) zs low = rw (lt-ltb (finding_rank x) rank low.0) (ap (λ fs. x ∷ fs) (before-all rank xs zs low.1))

after-all : (rank : ℕ) (xs zs : List Finding) → AllByRecursion (λ x. finding_rank x < rank) xs → after rank (xs ++ zs) ≡ after rank zs
after-all rank [] zs low = refl
after-all rank (x ∷ xs) zs low = rw (lt-ltb (finding_rank x) rank low.0) (after-all rank xs zs low.1)

-- what is true of all findings is true of those that are left
after-kept : (P : Finding → Type 0) (rank : ℕ) (xs : List Finding) → AllByRecursion P xs → AllByRecursion P (after rank xs)
after-kept P rank [] all = tt
after-kept P rank (x ∷ xs) all = by (nat_lt (finding_rank x) rank) (after-kept P rank xs all.1)
  where
    by : (b : Bool) → AllByRecursion P (after rank xs) → AllByRecursion P (drop (cond b (suc (count_before rank xs)) 0) (x ∷ xs))
    by true later = later
    by false later = all

module _ (base : ℕ) (f : Finding) (ys : List Finding) where
  -- among rows that all come after a finding
  first-later : (later : List Row) (xs : List Finding) → AllByRecursion (λ row. finding_rank f < row.rank) later → AllByRecursion (λ x. finding_rank x ≤ finding_rank f) xs
      → whole_text base later (xs ++ f ∷ ys) ≡ findings_text base xs ++ (finding_text base f ++ whole_text base later ys)
  first-later [] xs past low = findings_text-append base xs (f ∷ ys)
  first-later (row ∷ rows) xs past low =
      let under = past.0 in
      let all = all-weaker (λ x. finding_rank x ≤ finding_rank f) (λ x. finding_rank x < row.rank) xs (λ x most. omega (arith, most, under)) low in
      let mine : AllByRecursion (λ x. finding_rank x < row.rank) (f ∷ []) = (under, tt) in
      let b = before row.rank ys in
      let a = after row.rank ys in
      let rest = merged_text base rows a in
      let left = findings_text base (merged_left rows a) in
      let front : before row.rank (xs ++ f ∷ ys) ≡ xs ++ f ∷ b = before-all row.rank xs (f ∷ ys) all ∙ ap (λ fs. xs ++ fs) (before-all row.rank (f ∷ []) ys mine) in
      let back : after row.rank (xs ++ f ∷ ys) ≡ a = after-all row.rank xs (f ∷ ys) all ∙ after-all row.rank (f ∷ []) ys mine in
      let x = findings_text base xs in
      let t = finding_text base f in
      let fb = findings_text base b in
      let whole : whole_text base (row ∷ rows) (xs ++ f ∷ ys) ≡ ((findings_text base (xs ++ f ∷ b) ++ row.text) ++ rest) ++ left = rw (front, back) refl in
      whole
      ∙ ap (λ u. ((u ++ row.text) ++ rest) ++ left) (findings_text-append base xs (f ∷ b))
      ∙ ap (λ u. (u ++ rest) ++ left) (append_assoc x (t ++ fb) row.text ∙ ap (λ u. x ++ u) (append_assoc t fb row.text))
      ∙ ap (λ u. u ++ left) (append_assoc x (t ++ (fb ++ row.text)) rest ∙ ap (λ u. x ++ u) (append_assoc t (fb ++ row.text) rest))
      ∙ append_assoc x (t ++ ((fb ++ row.text) ++ rest)) left
      ∙ ap (λ u. x ++ u) (append_assoc t ((fb ++ row.text) ++ rest) left)

  -- a finding is printed after the rows up to its rank, and before the others
  in-place : (earlier later : List Row) (xs : List Finding) → AllByRecursion (λ row. row.rank ≤ finding_rank f) earlier → AllByRecursion (λ row. finding_rank f < row.rank) later → AllByRecursion (λ x. finding_rank x ≤ finding_rank f) xs
      → whole_text base (earlier ++ later) (xs ++ f ∷ ys) ≡ whole_text base earlier xs ++ (finding_text base f ++ whole_text base later ys)
  in-place [] later xs up_to past low = first-later later xs past low
  in-place (row ∷ rows) later xs up_to past low =
      let b = before row.rank xs in
      let a = after row.rank xs in
      let here = findings_text base b ++ row.text in
      let end = finding_text base f ++ whole_text base later ys in
      let front = before-skip row.rank xs f ys up_to.0 in
      let back = after-skip row.rank xs f ys up_to.0 in
      let rest = in-place rows later a up_to.1 past (after-kept (λ x. finding_rank x ≤ finding_rank f) row.rank xs low) in
      let all = xs ++ f ∷ ys in
      let whole : whole_text base (row ∷ (rows ++ later)) all ≡ (here ++ merged_text base (rows ++ later) (a ++ f ∷ ys)) ++ findings_text base (merged_left (rows ++ later) (a ++ f ∷ ys)) =
      ap (λ u. ((findings_text base u ++ row.text) ++ merged_text base (rows ++ later) (after row.rank all)) ++ findings_text base (merged_left (rows ++ later) (after row.rank all))) front
      ∙ ap (λ u. (here ++ merged_text base (rows ++ later) u) ++ findings_text base (merged_left (rows ++ later) u)) back in
      whole
      ∙ append_assoc here (merged_text base (rows ++ later) (a ++ f ∷ ys)) (findings_text base (merged_left (rows ++ later) (a ++ f ∷ ys)))
      ∙ ap (λ u. here ++ u) rest
      ∙ sym (append_assoc here (whole_text base rows a) end)
      ∙ ap (λ u. u ++ end) (sym (append_assoc here (merged_text base rows a) (findings_text base (merged_left rows a))))

-- rows in order are those up to a rank, and those after it
record Split (rank : ℕ) (rows : List Row) : Type 0 where
  pub earlier : List Row
  pub later : List Row
  pub parts : rows ≡ earlier ++ later
  pub up_to : AllByRecursion (λ row. row.rank ≤ rank) earlier
  pub past : AllByRecursion (λ row. rank < row.rank) later

split-at : (rank : ℕ) (rows : List Row) → Rises rows → Split rank rows
split-at rank [] rises = record { earlier = []; later = []; parts = refl; up_to = tt; past = tt }
split-at rank (row ∷ rows) rises = by (split-at rank rows rises.1)
  where
    by : Split rank rows → Split rank (row ∷ rows)
    by rest = elim (cases_lt rank row.rank) [
      | inl past ↦ record { earlier = []; later = row ∷ rows; parts = refl; up_to = tt; past = (past, all-weaker (λ (other : Row). row.rank < other.rank) (λ other. rank < other.rank) rows (λ other more. omega (arith, past, more)) rises.0) }
      | inr low ↦ record { earlier = row ∷ rest.earlier; later = rest.later; parts = ap (λ rs. row ∷ rs) rest.parts; up_to = (omega (arith, low), rest.up_to); past = rest.past }
    ]

-- in findings that are in order, those before one have no higher rank
at-middle : (xs : List Finding) (f : Finding) (ys : List Finding) (d : Finding) → slice_index_or (xs ++ f ∷ ys) (length xs) d ≡ f
at-middle [] f ys d = refl
at-middle (x ∷ xs) f ys d = at-middle xs f ys d

low-before : (xs : List Finding) (f : Finding) (ys : List Finding) → IsNonDecreasingBy finding_rank (xs ++ f ∷ ys) → AllByRecursion (λ x. finding_rank x ≤ finding_rank f) xs
low-before [] f ys rises = tt
low-before (x ∷ xs) f ys rises = (first, low-before xs f ys (λ i j d low under. rises (suc i) (suc j) d (omega (arith, low)) (omega (arith, under))))
  where
    inside : (us : List Finding) → length us < length (us ++ f ∷ ys)
    inside [] = omega arith
    inside (u ∷ us) = (let later = inside us in omega (arith, later))

    first : finding_rank x ≤ finding_rank f
    first = (let most = rises 0 (suc (length xs)) f (omega arith) (let in_range = inside xs in omega (arith, in_range)) in
        subst (λ g. finding_rank x ≤ finding_rank g) (at-middle xs f ys f) most)

pub prints_in_place : PrintsInPlace
prints_in_place = record {
  rows = rows_rise;
  own = own-rank;
  findings = λ limits base bytes i is small first f others parts. (
      let rows = rows_of (readable_at i.base i.bytes i.programs) row_parts in
      let same = is.bytes_are in
      let split = split-at (finding_rank f) rows (rows_rise i.base i.bytes i.programs (subst (λ b. length b ≤ 2 ^ 34) (sym same) small)) in
      let low = low-before first f others (subst (IsNonDecreasingBy finding_rank) parts is.in_order.rises) in
      record {
        earlier = split.earlier;
        later = split.later;
        parts = split.parts;
        up_to = split.up_to;
        past = split.past;
        text = ap (λ rs. whole_text i.base rs (first ++ f ∷ others)) split.parts ∙ in-place i.base f others split.earlier split.later first split.up_to split.past low;
      });
}
