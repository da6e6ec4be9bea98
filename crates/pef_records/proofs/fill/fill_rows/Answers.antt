-- Those before are passed.
use Rattle.pef_records.proofs.RowLemmas.{filled_from}
use Rattle.pef_records.proofs.fill.fill_rows.Goals as goal

pub returns : goal.returns
returns g c = filled_from (g.I.Rows.left c.args.rows.now) _ c.args.from _ _ _ c.pass.ensures c.fill.ensures
