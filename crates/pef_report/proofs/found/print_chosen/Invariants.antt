use Rattle.std.proofs.Common.{drop, true}
use Rattle.pef_report.specs.Inspection.{findings_json}
use Rattle.pef_ports.proofs.Laws.Sending.{IsSentUpTo}
use Rattle.pef_report.proofs.found.print_chosen.Given as goal

abbrev pub invariant-loop-finding : goal.invariant-loop-finding
invariant-loop-finding g l = IsSentUpTo (g.W.Sink.stream l.fn.out) (g.W.Sink.stream l.out) l.fn.page.items l.page.items (findings_json l.chosen.base l.chosen.errors true l.chosen.findings.now) (findings_json l.chosen.base l.chosen.errors l.is_first (drop l.finding-index l.chosen.findings.now))
