-- Rows of the same width, one after the other.
use Rattle.std.specs.Prelude.{◌≤◌, ◌<◌, ℕ, zero, suc, ◌+◌, List, [], ◌∷◌, length, map, slice_index, take, drop}

-- a number of rows, from the list of all their numbers
abbrev pub rows_of : ℕ → ℕ → List ℕ → List (List ℕ)
rows_of zero width values = []
rows_of (suc count) width values = take width values ∷ rows_of count width (drop width values)

-- two numbers of a row differ by at most 2
abbrev pub Close : List ℕ → Type 0
Close row = (i j : ℕ) → i < length row → j < length row → slice_index row i ≤ 2 + slice_index row j

-- rows, from a low number for each, and from how far each of its numbers is above that
abbrev pub close_rows : ℕ → List ℕ → List ℕ → List (List ℕ)
close_rows width [] steps = []
close_rows width (low ∷ lows) steps = map (λ step. low + step) (take width steps) ∷ close_rows width lows (drop width steps)
