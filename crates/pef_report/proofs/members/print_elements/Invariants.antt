use Rattle.std.proofs.Common.{◌≡◌, ◌-◌}
use Rattle.pef_report.specs.Inspection.{elements}
use Rattle.pef_report.specs.Views.{readable}
use Rattle.pef_ports.proofs.Laws.Sending.{IsSentUpTo}
use Rattle.pef_report.proofs.members.print_elements.Given as goal

abbrev pub invariant-loop-i : goal.invariant-loop-i
invariant-loop-i g l = record {
  sent : IsSentUpTo (g.W.Sink.stream l.fn.out) (g.W.Sink.stream l.out) l.fn.page.items l.page.items
      (elements (readable l.fn.reading) l.rows.part l.rows.from (l.rows.end - l.rows.from))
      (elements (readable l.fn.reading) l.rows.part l.i (l.rows.end - l.i));
  same : readable l.reading ≡ readable l.fn.reading;
}
