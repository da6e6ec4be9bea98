-- Each note sends its text.
use Rattle.std.proofs.Common.{◌+◌, drop, false}
use Rattle.std.proofs.lemmas.List.{at_drop_more}
use Rattle.pef_ports.proofs.Laws.Sending.{Sends-short, sent-piece, sent-short}
use Rattle.mac_rows.specs.FileFindings.{findings_text}
use Rattle.mac_rows.proofs.file_finding.print_findings.Goals as goal

pub loop-finding-preserved : goal.loop-finding-preserved
loop-finding-preserved g c =
    let at = c.loop-finding in
    let findings = c.args.findings.now in
    let rest = findings_text c.args.form false (drop (at.finding-index + 1) findings) in
    sent-piece rest at.invariant (at_drop_more (findings_text c.args.form at.is_first) findings at.finding-index _ c.loop-finding-test.true) c.in_ok-print.ensures

pub returns-in_err-print : goal.returns-in_err-print
returns-in_err-print g c =
    let at = c.loop-finding in
    let findings = c.args.findings.now in
    let rest = findings_text c.args.form false (drop (at.finding-index + 1) findings) in
    Sends-short _ c.from_residual.result _ c.from_residual.ensures.1
    (sent-short rest at.invariant (at_drop_more (findings_text c.args.form at.is_first) findings at.finding-index _ c.loop-finding-test.true) c.in_err-print.ensures)
