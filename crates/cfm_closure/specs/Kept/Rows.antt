-- The known targets of the fragments that a table has.
use Rattle.std.specs.Prelude.{List, [], map, Option, None, Some}
use Rattle.cfm_closure.specs.declared.fragment.ClosedFragment.{ClosedFragment}
use Rattle.cfm_closure.specs.Kept.Targets.{Row, Rows}

-- a place without a fragment has no imports
abbrev pub row_of : Option ClosedFragment → Row
row_of None = []
row_of (Some f) = f.targets

abbrev pub rows_of : List (Option ClosedFragment) → Rows
rows_of table = map row_of table
