-- Labels in rows. Equal neighbours are kept once.
use Rattle.std.specs.Prelude.{◌≡◌, ◌≢◌, ℕ, zero, suc, ◌-◌, ◌*◌, true, List, [], ◌∷◌, ◌++◌, length, take, drop, replicate}
use Rattle.pef_labels.specs.Rising.{above_all}

-- rows of labels, all of one width
pub record LaidRows : Type 0 where
  pub width : ℕ
  pub rows : List (List ℕ)

-- how rows are kept: for each row that differs from the one before it, how many rows end with it, and its
-- labels. These are the rows, from the kept ones on that begin after this many rows
abbrev pub rows_from : ℕ → ℕ → List ℕ → List ℕ → List (List ℕ)
rows_from width low [] values = []
rows_from width low (end ∷ ends) values = replicate (end - low) (take width values) ++ rows_from width end ends (drop width values)

-- each of the first n rows differs from the one after it
abbrev pub NeighboursDiffer : ℕ → ℕ → List ℕ → Type 0
NeighboursDiffer width zero values = Unit {0}
NeighboursDiffer width (suc n) values = (take width values ≢ take width (drop width values)) × NeighboursDiffer width n (drop width values)

-- the facts of kept rows
pub record RowsFull (width : ℕ) (ends values : List ℕ) : Type 0 where
  pub rising : above_all 0 ends ≡ true
  pub full : length values ≡ width * length ends
  pub apart : NeighboursDiffer width (length ends - 1) values

-- the facts of kept rows after this many rows
pub record RunsFull (width passed : ℕ) (ends values : List ℕ) : Type 0 where
  pub rising : above_all passed ends ≡ true
  pub full : length values ≡ width * length ends
  pub apart : NeighboursDiffer width (length ends - 1) values
