-- The places before k are filled.
use Rattle.std.specs.Prelude.{◌≡◌, length, map}
use Rattle.pef_records.specs.Buffers.{filled}
use Rattle.pef_records.proofs.fill.fill_table.Given as goal

abbrev pub invariant-loop-k : goal.invariant-loop-k
invariant-loop-k g l = record {
  rows : map g.T.Table.shown l.places ≡ filled (g.T.Table.row_at l.fn.table) l.fn.from l.k (map g.T.Table.shown l.fn.places);
  places : length l.places ≡ length l.fn.places;
  same : g.T.Table.row_at l.table ≡ g.T.Table.row_at l.fn.table;
}
