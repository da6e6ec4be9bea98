-- The places before this one are filled.
use Rattle.std.proofs.Common.{◌-◌, ◌≤◌, length}
use Rattle.std.specs.Prelude.{map}
use Rattle.pef_records.proofs.RowLemmas.{Filled}
use Rattle.pef_records.proofs.fill.fill.Given as goal

abbrev pub invariant-filled : goal.invariant-filled
invariant-filled g l = record {
  filled : Filled g.I.Rows.shown (g.I.Rows.left l.fn.rows) (map g.I.Rows.shown l.fn.places) l.count (g.I.Rows.left l.rows) l.places;
  within : l.count ≤ length l.places;
}

abbrev pub decreases-filled : goal.decreases-filled
decreases-filled g l = length l.places - l.count
