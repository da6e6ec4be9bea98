-- Rows as ranges: equal rows in front of others are one range.
use Rattle.std.proofs.Common.{◌≡◌, ◌≢◌, ℕ, zero, suc, ◌+◌, ◌-◌, ◌<◌, Bool, true, false, cond, List, [], ◌∷◌, ◌++◌, length, length-append, take, drop, replicate, refl, sym, ap, ap₂, ◌∙◌, arith}
use Rattle.std.specs.Str.{bytes_eq}
use Rattle.std.proofs.lemmas.List.{get_or-append_right, get_or-replicate, length-replicate}
use Rattle.std.proofs.lemmas.Slice.Eq.{bytes_eq-Decides}
use Rattle.pef_labels.specs.Rows.{RunsFull, rows_from}
use Rattle.pef_labels.proofs.Laws.{run-rises, runs-whole}
use Rattle.pef_cert.specs.Text.Grammar.{last_labels}
use Rattle.pef_cert.specs.Text.Lines.{Range}
use Rattle.pef_cert.specs.Text.Printed.{range_text, ranges_of, ranges_text, with_row}

-- labels that are the same, and that differ

pub same_labels : (row : List ℕ) → bytes_eq row row ≡ true
same_labels row = (bytes_eq-Decides row row).1 refl

pub other_labels : (row other : List ℕ) → row ≢ other → bytes_eq row other ≡ false
other_labels row other differ = by (bytes_eq row other) (bytes_eq-Decides row other).0
  where
    by : (same : Bool) → (same ≡ true → row ≡ other) → same ≡ false
    by true is = absurd (differ (is refl))
    by false is = refl

pub labels_differ : (row other : List ℕ) → bytes_eq row other ≡ false → row ≢ other
labels_differ row other differ is =
    let same = (bytes_eq-Decides row other).1 is in
    absurd (cc)

-- the last row is the one that was added last
pub last_labels-more : (rows : List (List ℕ)) (n : ℕ) (row : List ℕ) → last_labels (rows ++ replicate (n + 1) row) ≡ row
last_labels-more rows n row =
    let whole = length-append rows (replicate (n + 1) row) in
    let more = length-replicate (n + 1) row in
    get_or-append_right rows (replicate (n + 1) row) (length rows) (length (rows ++ replicate (n + 1) row) - 1) [] refl (omega (arith, whole, more))
    ∙ get_or-replicate (n + 1) (length (rows ++ replicate (n + 1) row) - 1 - length rows) row [] (omega (arith, whole, more))

-- a row that differs from the first of the others is a range of its own
one_row : (at : ℕ) (row : List ℕ) (others : List (List ℕ)) → ((more : List (List ℕ)) → others ≢ row ∷ more)
    → with_row at row (ranges_of (at + 1) others) ≡ record { first = at; last = at; labels = row } ∷ ranges_of (at + 1) others
one_row at row [] apart = refl
one_row at row (next ∷ others) apart = by (ranges_of (at + 1 + 1) others)
  where
    differ : bytes_eq row next ≡ false
    differ = other_labels row next (λ is. apart others (ap (λ (r : List ℕ). r ∷ others) (sym is)))

    whole : List Range → List Range
    whole ranges = record { first = at; last = at; labels = row } ∷ ranges

    chosen : (range : Range) (ranges : List Range) (same : Bool)
        → with_row at row (cond same (record { first = at + 1; last = range.last; labels = next } ∷ ranges) (record { first = at + 1; last = at + 1; labels = next } ∷ range ∷ ranges))
        ≡ whole (cond same (record { first = at + 1; last = range.last; labels = next } ∷ ranges) (record { first = at + 1; last = at + 1; labels = next } ∷ range ∷ ranges))
    chosen range ranges true = rw differ refl
    chosen range ranges false = rw differ refl

    by : (ranges : List Range) → with_row at row (with_row (at + 1) next ranges) ≡ whole (with_row (at + 1) next ranges)
    by [] = rw differ refl
    by (range ∷ ranges) = chosen range ranges (bytes_eq next range.labels)

-- equal rows are one range
pub ranges_of-run : (n at : ℕ) (row : List ℕ) (others : List (List ℕ)) → ((more : List (List ℕ)) → others ≢ row ∷ more)
    → ranges_of at (replicate (suc n) row ++ others) ≡ record { first = at; last = at + n; labels = row } ∷ ranges_of (at + n + 1) others
ranges_of-run zero at row others apart =
    let e : at + 0 ≡ at = omega arith in
    rw e (one_row at row others apart)
ranges_of-run (suc n) at row others apart =
    let last : at + 1 + n ≡ at + suc n = omega arith in
    let front = ap (with_row at row) (ranges_of-run n (at + 1) row others apart) in
    front ∙ rw (same_labels row, last) refl

-- rows begin with equal ones, and the others don't continue them
pub record Split (row : List ℕ) (rows : List (List ℕ)) : Type 0 where
  pub n : ℕ
  pub others : List (List ℕ)
  pub parts : rows ≡ replicate n row ++ others
  pub apart : (more : List (List ℕ)) → others ≢ row ∷ more

pub split : (row : List ℕ) (rows : List (List ℕ)) → Split row rows
split row [] = record { n = 0; others = []; parts = refl; apart = λ more is. absurd (cc) }
split row (next ∷ rows) = by (bytes_eq row next) refl (split row rows)
  where
    by : (same : Bool) → bytes_eq row next ≡ same → Split row rows → Split row (next ∷ rows)
    by true same s = record {
      n = suc s.n;
      others = s.others;
      parts = ap₂ (λ (r : List ℕ) (rs : List (List ℕ)). r ∷ rs) (sym ((bytes_eq-Decides row next).0 same)) s.parts;
      apart = s.apart;
    }
    by false same s = record {
      n = 0;
      others = next ∷ rows;
      parts = refl;
      apart = λ more is. (let first : next ≡ row = cc in labels_differ row next same (sym first));
    }

-- the line of equal rows, and then the others
pub run_text-more : (at n : ℕ) (row : List ℕ) (rows others : List (List ℕ)) → 0 < n → rows ≡ replicate n row ++ others → ((next : List (List ℕ)) → others ≢ row ∷ next)
    → ranges_text (ranges_of at rows) ≡ range_text (record { first = at; last = at + n - 1; labels = row }) ++ ranges_text (ranges_of (at + n) others)
run_text-more at n row rows others some parts apart =
    let whole : suc (n - 1) ≡ n = omega (arith, some) in
    let last : at + (n - 1) ≡ at + n - 1 = omega (arith, some) in
    let next : at + (n - 1) + 1 ≡ at + n = omega (arith, some) in
    ap ranges_text
    (ap (ranges_of at) (parts ∙ ap (λ (m : ℕ). replicate m row ++ others) (sym whole))
    ∙ ranges_of-run (n - 1) at row others apart
    ∙ ap₂ (λ (l m : ℕ). record { first = at; last = l; labels = row } ∷ ranges_of m others) last next)

-- the line of the first of the kept rows that are left, and then the lines of the others
pub packed_text-more : (w first end : ℕ) (ends rest numbers : List ℕ) → RunsFull w first ends numbers → ends ≡ end ∷ rest
    → ranges_text (ranges_of first (rows_from w first ends numbers)) ≡ range_text (record { first = first; last = end - 1; labels = take w numbers }) ++ ranges_text (ranges_of end (rows_from w end rest (drop w numbers)))
packed_text-more w first end ends rest numbers full is =
    let rises = run-rises w first end ends rest numbers full is in
    let rows = rows_from w end rest (drop w numbers) in
    let last : first + (end - first) - 1 ≡ end - 1 = omega (arith, rises) in
    let next : first + (end - first) ≡ end = omega (arith, rises) in
    run_text-more first (end - first) (take w numbers) (rows_from w first ends numbers) rows (omega (arith, rises)) (ap (λ (es : List ℕ). rows_from w first es numbers) is) (runs-whole w first end ends rest numbers full is)
    ∙ ap₂ (λ (l n : ℕ). range_text (record { first = first; last = l; labels = take w numbers }) ++ ranges_text (ranges_of n rows)) last next
