-- The invariants of a window's numbers and of close rows.
use Rattle.std.specs.Prelude.{◌≡◌, ◌≤◌, ◌<◌, ℕ, ◌+◌, ◌*◌, List, length}
use Rattle.std.specs.List.{AllByRecursion}

pub record WindowFull (width limit older newer : ℕ) (values low : List ℕ) : Type 0 where
  pub some : 0 < limit
  pub within : older + newer ≤ limit
  pub newer_inside : newer * width ≤ length values
  pub older_inside : 0 < older → limit * width ≤ length values
  pub low_wide : 0 < length values → length low ≡ width

-- close rows have all their numbers, and none is near the limit of its type
pub record CloseFull (width : ℕ) (lows steps : List ℕ) : Type 0 where
  pub full : length steps ≡ length lows * width
  pub small : AllByRecursion (λ low. low ≤ 1048576) lows
