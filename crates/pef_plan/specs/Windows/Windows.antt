-- Windows of rows of numbers, and the least of the rows at each place.
use Rattle.std.specs.Prelude.{◌≡◌, ◌≤◌, ◌<◌, ◌⊎◌, ℕ, ◌+◌, ◌-◌, ◌*◌, min, Bool, true, false, List, [], ◌∷◌, ◌++◌, Option, None, Some, length, slice_index, slice_index_or, take}

-- a value is at most each number of some rows at a place, plus an addend
abbrev pub AtMostEach : ℕ → ℕ → List (List ℕ) → ℕ → Type 0
AtMostEach more value [] i = Unit {0}
AtMostEach more value (q ∷ qs) i = (value ≤ more + slice_index q i) × AtMostEach more value qs i

-- a value is one of these numbers, plus an addend
abbrev pub IsOne : ℕ → ℕ → List (List ℕ) → ℕ → Type 0
IsOne more value [] i = ⊥
IsOne more value (q ∷ qs) i = (value ≡ more + slice_index q i) ⊎ IsOne more value qs i

-- a value is the least of these numbers
pub record LowIn (rows : List (List ℕ)) (i value : ℕ) : Type 0 where
  pub each : AtMostEach 0 value rows i
  pub one : IsOne 0 value rows i

-- a row has the least of some rows at each place
abbrev pub LowRow : ℕ → List (List ℕ) → List ℕ → Type 0
LowRow width rows low = (i : ℕ) → i < width → LowIn rows i (slice_index low i)

-- a row has the lesser of two at each place
abbrev pub LesserOf : ℕ → List ℕ → List ℕ → List ℕ → Type 0
LesserOf width one other row = (i : ℕ) → i < width → slice_index row i ≡ min (slice_index one i) (slice_index other i)

-- numbers with some rows, the newest row last. The rows are given with the newest first
abbrev pub NewerOf : ℕ → List (List ℕ) → List ℕ → Type 0
NewerOf width rows values = (n slot i : ℕ) → n + 1 + slot ≡ length rows → i < width → slice_index values (slot * width + i) ≡ slice_index (slice_index_or rows n []) i

-- numbers that end, after `limit` rows, with the minima in place of some rows, the oldest row first. The rows are
-- given with the newest first
abbrev pub OlderOf : ℕ → ℕ → List (List ℕ) → List ℕ → Type 0
OlderOf width limit rows values = (n slot i : ℕ) → n < length rows → n + 1 + slot ≡ limit → i < width → LowIn (take (n + 1) rows) i (slice_index values (slot * width + i))

-- each of the first numbers is lowered to the one of the next row
pub record LowToNext (width count : ℕ) (old new : List ℕ) : Type 0 where
  pub lower : (i : ℕ) → i + width < count → slice_index new i ≡ min (slice_index old i) (slice_index new (i + width))
  pub last : (i : ℕ) → count ≤ i + width → slice_index new i ≡ slice_index old i

-- a row is written at an index
pub record RowAdded (row : List ℕ) (start : ℕ) (old new : List ℕ) : Type 0 where
  pub row_is : (i : ℕ) → i < length row → slice_index new (start + i) ≡ slice_index row i
  pub before : (i : ℕ) → i < start → slice_index new i ≡ slice_index old i
  pub after : (i : ℕ) → start + length row ≤ i → slice_index new i ≡ slice_index old i

-- the model of a window
pub record Windowed : Type 0 where
  pub width : ℕ
  pub limit : ℕ
  pub older : ℕ
  pub newer : ℕ
  pub values : List ℕ
  pub low : List ℕ

-- a window has rows, the newest first
pub record WindowOf (width limit : ℕ) (rows : List (List ℕ)) (w : Windowed) : Type 0 where
  pub width_is : w.width ≡ width
  pub limit_is : w.limit ≡ limit
  pub some : 0 < limit
  pub newer : List (List ℕ)
  pub older : List (List ℕ)
  pub parts : rows ≡ newer ++ older
  pub newer_count : length newer ≡ w.newer
  pub older_count : length older ≡ w.older
  pub newer_is : NewerOf width newer w.values
  pub older_is : OlderOf width limit older w.values
  pub low_is : 0 < length newer → LowRow width newer w.low

-- a value is the least of a first one and, for each of some rows, 1 plus the row's number at a place
pub record BestOf (first : ℕ) (rows : List (List ℕ)) (i value : ℕ) : Type 0 where
  pub first_is : value ≤ first
  pub each : AtMostEach 1 value rows i
  pub one : (value ≡ first) ⊎ IsOne 1 value rows i

-- a value is the least of a first one and, for each row of a window, 1 plus the row's number at a place
abbrev pub Bests : Windowed → ℕ → ℕ → ℕ → Type 0
Bests w i first value = (width limit : ℕ) (rows : List (List ℕ)) → WindowOf width limit rows w → BestOf first rows i value

-- the same for the rows of two windows
pub record BestsOfTwo (w v : Windowed) (i first value : ℕ) : Type 0 where
  pub between : ℕ
  pub one : Bests w i first between
  pub other : Bests v i between value

-- the rows of a window that was moved to a place. There one begins, and is followed by the first of the others
-- if the run goes on
abbrev pub rows_brought : Bool → ℕ → List (List ℕ) → List ℕ → List (List ℕ)
rows_brought true limit rows row = row ∷ take (limit - 1) rows
rows_brought false limit rows row = row ∷ []

-- the same, with no row if no run begins
abbrev pub rows_moved : Option Bool → ℕ → List (List ℕ) → List ℕ → List (List ℕ)
rows_moved None limit rows row = []
rows_moved (Some on) limit rows row = rows_brought on limit rows row
