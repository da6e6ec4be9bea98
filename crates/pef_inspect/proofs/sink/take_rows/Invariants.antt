-- What was taken and what is left are all.
use Rattle.std.proofs.Common.{◌≡◌, ◌++◌, ◌-◌}
use Rattle.pef_words.specs.Findings.{all_among}
use Rattle.pef_inspect.proofs.sink.take_rows.Given as goal

abbrev pub invariant-loop-i : goal.invariant-loop-i
invariant-loop-i g l = record {
  same : g.R.Rows.found l.rows ≡ g.R.Rows.found l.fn.rows;
  taken : g.S.Findings.taken l.sink ++ all_among (g.R.Rows.found l.fn.rows) l.i (l.count - l.i) ≡ g.S.Findings.taken l.fn.sink ++ all_among (g.R.Rows.found l.fn.rows) 0 l.count;
}
