-- The kept form of rows: the values at an end, and the row at an index.
use Rattle.std.specs.Prelude.{◌≡◌, ◌<◌, ◌≤◌, ℕ, ◌++◌, List, length, slice_index}

-- there are kept rows, and their values end with those of a row
pub record EndsWith (ends values row : List ℕ) : Type 0 where
  pub some : 0 < length ends
  pub front : List ℕ
  pub is : values ≡ front ++ row

-- a kept row is the one at an index: the ends before it aren't after the index, and its own is
pub record PlaceOf (ends : List ℕ) (index place : ℕ) : Type 0 where
  pub under : place < length ends
  pub before : (k : ℕ) → k < place → slice_index ends k ≤ index
  pub here : index < slice_index ends place
