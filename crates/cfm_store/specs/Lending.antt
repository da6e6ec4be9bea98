-- The table after a borrow of a value ends.
use Rattle.std.specs.Prelude.{ℕ, List, Option, Some, slice_set}
use Rattle.std.specs.Borrow.{Lends, Fml, MutBor, RattleType}
use Rattle.cfm_store.specs.contracts.place_table.PlaceTable.{the_row}

-- the table ends with the last value of r at a place
abbrev pub LendsValue : (T : RattleType) → MutBor (List (Option T.Denot)) → ℕ → MutBor T.Denot → Fml
LendsValue T table p r = Lends (the_row T) T table r (λ w. slice_set table.now p (Some w))
