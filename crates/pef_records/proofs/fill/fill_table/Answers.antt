-- The next place gets the next row, if that is there.
use Rattle.std.proofs.Common.{◌≡◌, ℕ, ◌+◌, ◌<◌, length, ap, sym, ◌∙◌, arith}
use Rattle.std.specs.Prelude.{Option, map}
use Rattle.pef_records.proofs.RowLemmas.{filled_more, filled_past}
use Rattle.pef_records.proofs.RowLemmas.{len_set}
use Rattle.pef_records.proofs.fill.fill_table.Goals.{in-Some, in-None}
use Rattle.pef_records.proofs.fill.fill_table.Goals as goal

pub loop-k-preserved : goal.loop-k-preserved
loop-k-preserved g c =
    let row = g.T.Table.row_at c.args.table.now in
    let old = map g.T.Table.shown c.args.places.now in
    let under : c.loop-k.k < length c.loop-k.places = search arith in
    let at = c.args.from + c.loop-k.k in
    let same : row at ≡ g.T.Table.row_at c.loop-k.table at = ap (λ (f : ℕ → Option g.T.Table.Held). f at) (sym c.loop-k.invariant.same) in
    elim c.match-row.branch [
      | in-Some w ↦ record {
        rows = rw w.places-is (filled_more g.T.Table.shown row c.args.from c.loop-k.k c.loop-k.places old w.in-Some.row under (same ∙ sym w.in-Some.ensures.value) c.loop-k.invariant.rows);
        places = rw w.places-is (len_set c.loop-k.places c.loop-k.k w.in-Some.row ∙ c.loop-k.invariant.places);
        same = c.row.ensures.same ∙ c.loop-k.invariant.same;
      }
      | in-None w ↦ record {
        rows = rw w.places-is (filled_past g.T.Table.shown row c.args.from c.loop-k.k c.loop-k.places old (same ∙ sym w.in-None.ensures.value) c.loop-k.invariant.rows);
        places = rw w.places-is c.loop-k.invariant.places;
        same = c.row.ensures.same ∙ c.loop-k.invariant.same;
      }
    ]
