-- The labels of a row, along its lines.
use Rattle.std.specs.Prelude.{◌≡◌, ◌≤◌, ◌<◌, ℕ, ◌+◌, ◌*◌, List, length, slice_index}

-- labels of a row at places this far apart differ by at most 1
abbrev pub LineHolds : List ℕ → ℕ → ℕ → ℕ → Type 0
LineHolds row from stride count = (x y : ℕ) → x < count → y < count → slice_index row (from + x * stride) ≤ 1 + slice_index row (from + y * stride)

-- all lines of a row, with this many classes: along register D, and along register C
abbrev pub LinesHold : List ℕ → ℕ → ℕ → Type 0
LinesHold row count k = LineHolds row (k * count) 1 count × LineHolds row k count count

abbrev pub RowHolds : List ℕ → ℕ → Type 0
RowHolds row count = (k : ℕ) → k < count → LinesHold row count k

-- each label of a row is at most this much above that of another row
abbrev pub RowWithin : ℕ → List ℕ → List ℕ → Type 0
RowWithin cost row others = (k : ℕ) → k < length row → slice_index row k ≤ cost + slice_index others k

-- all labels of a row are 0
abbrev pub RowIsZero : List ℕ → Type 0
RowIsZero row = (k : ℕ) → k < length row → slice_index row k ≡ 0
