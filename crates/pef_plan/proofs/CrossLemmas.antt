-- A row whose numbers were lowered in the line and the column of a class, and its labels.
use Rattle.std.proofs.Common.{◌≡◌, ◌≢◌, ℕ, ◌+◌, ◌-◌, ◌<◌, ◌≤◌, ◌⊎◌, inl, inr, min, List, length, slice_index, refl, ap, sym, ◌∙◌, subst, arith}
use Rattle.std.specs.Prelude.{slice_set}
use Rattle.std.proofs.lemmas.Bool.Decides.{eqb_tells}
use Rattle.std.proofs.lemmas.List.{get_or-set_other, get_or-set_same}
use Rattle.pef_plan.specs.declared.rows.Cross.{Cross}
use Rattle.pef_plan.specs.Kept.Near.{StepsBeside, StepsOf}
use Rattle.pef_plan.specs.Kept.Rows.{ClosedOf, LeastOf, LowersIn, TopsOf}
use Rattle.pef_plan.specs.Runs.Tables.{number_in, place_of}
use Rattle.pef_plan.proofs.RunsProofs.PlaceLemmas.{same_place}

-- the numbers of direct values and of labels by two classes, where the values were lowered in the line and the
-- column of a class: each label is at most the values there, with 1 added for each register that changes
pub record Crossed (count class line column : ℕ) (direct label : ℕ → ℕ → ℕ) : Type 0 where
  pub corner : label class class ≡ min (direct class class) (min (line + 1) (column + 1))
  pub on_line : (d : ℕ) → d < count → d ≢ class → label class d ≡ min (direct class d) (min (line + 1) (column + 2))
  pub on_column : (c : ℕ) → c < count → c ≢ class → label c class ≡ min (direct c class) (min (column + 1) (line + 2))
  pub inside : (c d : ℕ) → c < count → d < count → c ≢ class → d ≢ class → label c d ≡ min (min (direct c d) (min (direct class d + 1) (direct c class + 1))) (min line column + 2)

-- the same with the registers swapped
pub crossed-turned : (count class line column : ℕ) (direct label : ℕ → ℕ → ℕ) → Crossed count class line column direct label → Crossed count class column line (λ c d. direct d c) (λ c d. label d c)
crossed-turned count class line column direct label x = record {
  corner = (let e = x.corner in omega (arith, e));
  on_line = x.on_column;
  on_column = x.on_line;
  inside = λ c d under_c under_d away_c away_d. let e = x.inside d c under_d under_c away_d away_c in omega (arith, e);
}

-- the change of register C changes a label by at most 1
pub crossed-steps : (count class line column : ℕ) (direct label : ℕ → ℕ → ℕ) → class < count → Crossed count class line column direct label → LeastOf count (λ d. direct class d) line → LeastOf count (λ c. direct c class) column
    → ((c e d : ℕ) → c < count → e < count → d < count → e ≢ class → d ≢ class → direct c d ≤ 1 + direct e d) → (c e d : ℕ) → c < count → e < count → d < count → label c d ≤ 1 + label e d
crossed-steps count class line column direct label under x least_line least_column steps c e d under_c under_e under_d =
    elim (eqb_tells d class) [
      | inl same ↦ (let one = ap (λ v. label c v) same.1 in let two = ap (λ v. label e v) same.1 in let most = high c under_c in let least = low e under_e in omega (arith, one, two, most, least))
      | inr away ↦ elim (eqb_tells c class) [
        | inl same ↦ (let one = ap (λ v. label v d) same.1 in let step = from_line e under_e away.1 in omega (arith, one, step))
        | inr away_c ↦ elim (eqb_tells e class) [
          | inl same ↦
              (let one = ap (λ v. label v d) same.1 in
              let mine = x.inside c d under_c under_d away_c.1 away.1 in
              let there = x.on_line d under_d away.1 in
              omega (arith, one, mine, there))
          | inr away_e ↦
              (let mine = x.inside c d under_c under_d away_c.1 away.1 in
              let there = x.inside e d under_e under_d away_e.1 away.1 in
              let step = steps c e d under_c under_e under_d away_e.1 away.1 in
              let least = least_column.low e under_e in
              omega (arith, mine, there, step, least))
        ]
      ]
    ]
  where
    -- in the column of the class
    high : (c : ℕ) → c < count → label c class ≤ min (column + 1) (line + 2)
    high c under_c =
        elim (eqb_tells c class) [
          | inl same ↦ (let one = ap (λ v. label v class) same.1 in let here = x.corner in omega (arith, one, here))
          | inr away ↦ (let here = x.on_column c under_c away.1 in omega (arith, here))
        ]

    low : (e : ℕ) → e < count → min column (line + 1) ≤ label e class
    low e under_e =
        let least = least_column.low e under_e in
        elim (eqb_tells e class) [
          | inl same ↦ (let one = ap (λ v. label v class) same.1 in let two = ap (λ v. direct v class) same.1 in let here = x.corner in omega (arith, one, two, here, least))
          | inr away ↦ (let here = x.on_column e under_e away.1 in omega (arith, here, least))
        ]

    -- from the line of the class
    from_line : (e : ℕ) → e < count → d ≢ class → label class d ≤ 1 + label e d
    from_line e under_e away =
        let mine = x.on_line d under_d away in
        elim (eqb_tells e class) [
          | inl same ↦ (let one = ap (λ v. label v d) same.1 in omega (arith, one))
          | inr away_e ↦
              (let there = x.inside e d under_e under_d away_e.1 away in
              let step = steps class e d under under_e under_d away_e.1 away in
              let least = least_column.low e under_e in
              omega (arith, mine, there, step, least))
        ]

-- a label is the direct value, or 1 more than another one
abbrev pub Reaches : ℕ → (ℕ → ℕ → ℕ) → (ℕ → ℕ → ℕ) → ℕ → ℕ → Type 0
Reaches count direct label c d = (label c d ≡ direct c d) ⊎ (((e : ℕ) × (e < count) × (1 + label e d ≤ label c d)) ⊎ ((e : ℕ) × (e < count) × (1 + label c e ≤ label c d)))

three_of : (n a b m : ℕ) → n ≡ min a (min b m) → ((n ≡ a) ⊎ (n ≡ b)) ⊎ (n ≡ m)
three_of n a b m e = grind (arith, e)

five_of : (n a b c x y : ℕ) → n ≡ min (min a (min (b + 1) (c + 1))) (min x y + 2) → ((n ≡ a) ⊎ (n ≡ b + 1)) ⊎ ((n ≡ c + 1) ⊎ ((n ≡ x + 2) ⊎ (n ≡ y + 2)))
five_of n a b c x y e = grind (arith, e)

pub crossed-reach : (count class line column : ℕ) (direct label : ℕ → ℕ → ℕ) → class < count → Crossed count class line column direct label → LeastOf count (λ d. direct class d) line → LeastOf count (λ c. direct c class) column
    → (c d : ℕ) → c < count → d < count → Reaches count direct label c d
crossed-reach count class line column direct label under x least_line least_column c d under_c under_d =
    elim (eqb_tells c class) [
      | inl same_c ↦ elim (eqb_tells d class) [
        | inl same_d ↦ rw (same_c.1, same_d.1) corner
        | inr away_d ↦ rw (same_c.1) (on_line d under_d away_d.1)
      ]
      | inr away_c ↦ elim (eqb_tells d class) [
        | inl same_d ↦ rw (same_d.1) (on_column c under_c away_c.1)
        | inr away_d ↦ inside away_c.1 away_d.1
      ]
    ]
  where
    -- each label is at most the direct value
    at_line : (e : ℕ) → e < count → (label class e ≤ direct class e) × (label class e ≤ line + 1)
    at_line e under_e =
        elim (eqb_tells e class) [
          | inl same ↦ (let one = ap (λ v. label class v) same.1 in let two = ap (λ v. direct class v) same.1 in let here = x.corner in (omega (arith, one, two, here), omega (arith, one, here)))
          | inr away ↦ (let here = x.on_line e under_e away.1 in (omega (arith, here), omega (arith, here)))
        ]

    at_column : (e : ℕ) → e < count → (label e class ≤ direct e class) × (label e class ≤ column + 1)
    at_column e under_e =
        elim (eqb_tells e class) [
          | inl same ↦ (let one = ap (λ v. label v class) same.1 in let two = ap (λ v. direct v class) same.1 in let here = x.corner in (omega (arith, one, two, here), omega (arith, one, here)))
          | inr away ↦ (let here = x.on_column e under_e away.1 in (omega (arith, here), omega (arith, here)))
        ]

    line_at : label class least_line.at ≤ line
    line_at = let here = (at_line least_line.at least_line.under).0 in let is = least_line.is in omega (arith, here, is)

    column_at : label least_column.at class ≤ column
    column_at = let here = (at_column least_column.at least_column.under).0 in let is = least_column.is in omega (arith, here, is)

    corner : Reaches count direct label class class
    corner =
        elim (three_of (label class class) (direct class class) (line + 1) (column + 1) x.corner) [
          | inl one ↦ elim one [
            | inl is ↦ inl is
            | inr is ↦ inr (inr (least_line.at, least_line.under, (let low = line_at in omega (arith, is, low))))
          ]
          | inr is ↦ inr (inl (least_column.at, least_column.under, (let low = column_at in omega (arith, is, low))))
        ]

    on_line : (d : ℕ) → d < count → d ≢ class → Reaches count direct label class d
    on_line d under_d away =
        elim (three_of (label class d) (direct class d) (line + 1) (column + 2) (x.on_line d under_d away)) [
          | inl one ↦ elim one [
            | inl is ↦ inl is
            | inr is ↦ inr (inr (least_line.at, least_line.under, (let low = line_at in omega (arith, is, low))))
          ]
          | inr is ↦ inr (inr (class, under, (let low = x.corner in omega (arith, is, low))))
        ]

    on_column : (c : ℕ) → c < count → c ≢ class → Reaches count direct label c class
    on_column c under_c away =
        elim (three_of (label c class) (direct c class) (column + 1) (line + 2) (x.on_column c under_c away)) [
          | inl one ↦ elim one [
            | inl is ↦ inl is
            | inr is ↦ inr (inl (least_column.at, least_column.under, (let low = column_at in omega (arith, is, low))))
          ]
          | inr is ↦ inr (inl (class, under, (let low = x.corner in omega (arith, is, low))))
        ]

    inside : c ≢ class → d ≢ class → Reaches count direct label c d
    inside away_c away_d =
        let line_low = at_line d under_d in
        let column_low = at_column c under_c in
        let line_here = line_low.0 in
        let line_most = line_low.1 in
        let column_here = column_low.0 in
        let column_most = column_low.1 in
        elim (five_of (label c d) (direct c d) (direct class d) (direct c class) line column (x.inside c d under_c under_d away_c away_d)) [
          | inl one ↦ elim one [
            | inl is ↦ inl is
            | inr is ↦ inr (inl (class, under, omega (arith, is, line_here)))
          ]
          | inr other ↦ elim other [
            | inl is ↦ inr (inr (class, under, omega (arith, is, column_here)))
            | inr both ↦ elim both [
              | inl is ↦ inr (inl (class, under, omega (arith, is, line_most)))
              | inr is ↦ inr (inr (class, under, omega (arith, is, column_most)))
            ]
          ]
        ]

-- the bounds of a line, from its number in the column of the cross
pub record TopOf (x : Cross) (number c top : ℕ) : Type 0 where
  pub class : c ≡ x.class → top ≡ min (x.line + 1) (x.column + 2)
  pub other : c ≢ x.class → top ≡ number + 1

-- each number of a line is lowered to the bounds of its column and of the line
pub record LineLowered (count : ℕ) (direct tops row : List ℕ) (x : Cross) (c : ℕ) : Type 0 where
  pub top : ℕ
  pub top_is : TopOf x (number_in count direct c x.class) c top
  pub numbers : (d : ℕ) → d < count → number_in count row c d ≡ min (min (number_in count direct c d) (slice_index tops d)) top

pub crossed-of : (count : ℕ) (direct tops row : List ℕ) (x : Cross) → x.class < count → LeastOf count (λ d. number_in count direct x.class d) x.line → LeastOf count (λ c. number_in count direct c x.class) x.column
    → TopsOf count direct x tops → ((c : ℕ) → c < count → LineLowered count direct tops row x c) → Crossed count x.class x.line x.column (λ c d. number_in count direct c d) (λ c d. number_in count row c d)
crossed-of count direct tops row x under least_line least_column tops_are lines = record {
  corner =
      (let l = lines x.class under in
      let is = l.numbers x.class under in
      let top = l.top_is.class refl in
      let column = tops_are.class in
      omega (arith, is, top, column));
  on_line = λ d under_d away.
      let l = lines x.class under in
      let is = l.numbers d under_d in
      let top = l.top_is.class refl in
      let column = tops_are.others d under_d away in
      let least = least_line.low d under_d in
      omega (arith, is, top, column, least);
  on_column = λ c under_c away.
      let l = lines c under_c in
      let is = l.numbers x.class under in
      let top = l.top_is.other away in
      let column = tops_are.class in
      omega (arith, is, top, column);
  inside = λ c d under_c under_d away_c away_d.
      let l = lines c under_c in
      let is = l.numbers d under_d in
      let top = l.top_is.other away_c in
      let column = tops_are.others d under_d away_d in
      omega (arith, is, top, column);
}

-- the labels are the least over all changes
pub closed-cross : (count : ℕ) (direct tops row : List ℕ) (x : Cross) → x.class < count → StepsBeside count x.class direct → LeastOf count (λ d. number_in count direct x.class d) x.line → LeastOf count (λ c. number_in count direct c x.class) x.column
    → TopsOf count direct x tops → ((c : ℕ) → c < count → LineLowered count direct tops row x c) → ClosedOf count direct row
closed-cross count direct tops row x under steps least_line least_column tops_are lines =
    let crossed = crossed-of count direct tops row x under least_line least_column tops_are lines in
    record {
      below = λ c d under_c under_d. (let is = (lines c under_c).numbers d under_d in omega (arith, is));
      c_line = crossed-steps count x.class x.line x.column (λ c d. number_in count direct c d) (λ c d. number_in count row c d) under crossed least_line least_column steps.c_line;
      d_line = λ c d e under_c under_d under_e.
          crossed-steps count x.class x.column x.line (λ c d. number_in count direct d c) (λ c d. number_in count row d c) under
          (crossed-turned count x.class x.line x.column (λ c d. number_in count direct c d) (λ c d. number_in count row c d) crossed) least_column least_line
          (λ c e d under_c under_e under_d away_e away_d. steps.d_line d c e under_d under_c under_e away_d away_e) d e c under_d under_e under_c;
      from = crossed-reach count x.class x.line x.column (λ c d. number_in count direct c d) (λ c d. number_in count row c d) under crossed least_line least_column;
    }

-- nothing is lowered yet
pub lowers-none : (count : ℕ) (In : ℕ → ℕ → Type 0) (row : List ℕ) → LowersIn count In row row 0
lowers-none count In row = record { low = λ c d _ _. omega arith; others = λ c d _ _ _. refl; none = λ _ c d _ _. refl }

-- one more number is lowered
pub lowers-set : (count : ℕ) (In : ℕ → ℕ → Type 0) (old row : List ℕ) (saved saved' place p q x : ℕ) → place ≡ place_of count p q → place < length row → q < count → In p q → x ≤ slice_index row place → saved' ≡ saved + (slice_index row place - x) → LowersIn count In old row saved → LowersIn count In old (slice_set row place x) saved'
lowers-set count In old row saved saved' place p q x is inside under_q allowed less sum l = record {
  low = λ c d under_c under_d. let before = l.low c d under_c under_d in let now = at_most c d in omega (arith, before, now);
  others = λ c d under_c under_d away.
      get_or-set_other row place (place_of count c d) x 0 (λ same. away (moved c d under_d (same ∙ is)))
      ∙ l.others c d under_c under_d away;
  none = λ e c d under_c under_d. same_at c d (omega (arith, e, sum, less)) ∙ l.none (omega (arith, e, sum)) c d under_c under_d;
}
  where
    moved : (c d : ℕ) → d < count → place_of count c d ≡ place_of count p q → In c d
    moved c d under_d same =
        let pair = same_place count c d p q under_d under_q same in
        subst (λ (y : ℕ). In c y) (sym pair.1) (subst (λ (y : ℕ). In y q) (sym pair.0) allowed)

    at_most : (c d : ℕ) → number_in count (slice_set row place x) c d ≤ number_in count row c d
    at_most c d =
        elim (eqb_tells (place_of count c d) place) [
          | inl same ↦ (let new = ap (slice_index (slice_set row place x)) same.1 ∙ get_or-set_same row place x 0 inside in let before = ap (slice_index row) same.1 in omega (arith, new, before, less))
          | inr away ↦ (let same = get_or-set_other row place (place_of count c d) x 0 away.1 in omega (arith, same))
        ]

    same_at : (c d : ℕ) → x ≡ slice_index row place → number_in count (slice_set row place x) c d ≡ number_in count row c d
    same_at c d same =
        elim (eqb_tells (place_of count c d) place) [
          | inl at ↦ ap (slice_index (slice_set row place x)) at.1 ∙ (get_or-set_same row place x 0 inside ∙ (same ∙ sym (ap (slice_index row) at.1)))
          | inr away ↦ get_or-set_other row place (place_of count c d) x 0 away.1
        ]

-- numbers that were lowered in a line and in a column
pub steps-beside : (count class cost saved_c saved_d : ℕ) (near alone line row : List ℕ) → StepsOf count near → ((c d : ℕ) → c < count → d < count → number_in count alone c d ≡ cost + number_in count near c d) → LowersIn count (λ c d. c ≡ class) alone line saved_c → LowersIn count (λ c d. d ≡ class) line row saved_d → StepsBeside count class row
steps-beside count class cost saved_c saved_d near alone line row steps are in_c in_d = record {
  c_line = λ c e d under_c under_e under_d away_e away_d.
      let low = most c d under_c under_d in
      let step = steps.c_line c e d under_c under_e under_d in
      let there = same e d under_e under_d away_e away_d in
      omega (arith, low, step, there);
  d_line = λ c d e under_c under_d under_e away_c away_e.
      let low = most c d under_c under_d in
      let step = steps.d_line c d e under_c under_d under_e in
      let there = same c e under_c under_e away_c away_e in
      omega (arith, low, step, there);
}
  where
    most : (c d : ℕ) → c < count → d < count → number_in count row c d ≤ cost + number_in count near c d
    most c d under_c under_d =
        let one = in_c.low c d under_c under_d in
        let two = in_d.low c d under_c under_d in
        let is = are c d under_c under_d in
        omega (arith, one, two, is)

    same : (c d : ℕ) → c < count → d < count → c ≢ class → d ≢ class → number_in count row c d ≡ cost + number_in count near c d
    same c d under_c under_d away_c away_d = in_d.others c d under_c under_d away_d ∙ (in_c.others c d under_c under_d away_c ∙ are c d under_c under_d)
