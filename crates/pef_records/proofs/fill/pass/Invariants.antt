-- This many are passed.
use Rattle.std.proofs.Common.{◌≡◌, drop}
use Rattle.pef_records.proofs.fill.pass.Given as goal

abbrev pub invariant-passed : goal.invariant-passed
invariant-passed g l = g.I.Rows.left l.rows ≡ drop l.counter (g.I.Rows.left l.fn.rows)
