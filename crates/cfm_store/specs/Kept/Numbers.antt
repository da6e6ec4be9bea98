-- How a table has its values: in a list, and for each place a number.
use Rattle.std.specs.Prelude.{◌≡◌, ℕ, zero, suc, ◌^◌, ◌≤◌, ◌<◌, Bool, true, false, List, length, map, slice_get, slice_index_or, count_by, Option, None}

-- the value with a number; none for 0
abbrev pub value_of : {T : Type 0} → List T → ℕ → Option T
value_of values zero = None
value_of values (suc n) = slice_get values n

-- the values at all places
abbrev pub values_at : {T : Type 0} → List ℕ → List T → List (Option T)
values_at numbers values = map (value_of values) numbers

abbrev pub is_number : ℕ → Bool
is_number zero = false
is_number (suc n) = true

-- each number is that of a value, and different places have different numbers
pub record IsSound {T : Type 0} (numbers : List ℕ) (values : List T) : Type 0 where
  pub few : length numbers < 2 ^ 16
  pub count : count_by is_number numbers ≡ length values
  pub within : (p : ℕ) → slice_index_or numbers p 0 ≤ length values
  pub apart : (p q n : ℕ) → slice_index_or numbers p 0 ≡ suc n → slice_index_or numbers q 0 ≡ suc n → p ≡ q
