-- A prefix was sent, and the notes that are left are still to be sent.
use Rattle.std.proofs.Common.{true, drop}
use Rattle.pef_ports.proofs.Laws.Sending.{IsSentUpTo}
use Rattle.mac_rows.specs.FileFindings.{findings_text}
use Rattle.mac_rows.proofs.file_finding.print_findings.Given as goal

abbrev pub invariant-loop-finding : goal.invariant-loop-finding
invariant-loop-finding g l = IsSentUpTo (g.W.Sink.stream l.fn.out) (g.W.Sink.stream l.out) l.fn.page.items l.page.items (findings_text l.form true l.findings) (findings_text l.form l.is_first (drop l.finding-index l.findings))
