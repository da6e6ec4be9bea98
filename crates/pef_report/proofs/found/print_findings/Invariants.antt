use Rattle.std.proofs.Common.{drop}
use Rattle.pef_report.specs.Inspection.{findings_text}
use Rattle.pef_ports.proofs.Laws.Sending.{IsSentUpTo}
use Rattle.pef_report.proofs.found.print_findings.Given as goal

abbrev pub invariant-loop-finding : goal.invariant-loop-finding
invariant-loop-finding g l = IsSentUpTo (g.W.Sink.stream l.fn.out) (g.W.Sink.stream l.out) l.fn.page.items l.page.items (findings_text l.base l.findings) (findings_text l.base (drop l.finding-index l.findings))
