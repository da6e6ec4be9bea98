-- Each finding sends its line.
use Rattle.std.proofs.Common.{◌+◌, drop, ap}
use Rattle.std.proofs.lemmas.List.{at_drop_more, drop_all}
use Rattle.pef_report.specs.Inspection.{findings_text}
use Rattle.pef_report.proofs.Merging.{no_finding}
use Rattle.pef_ports.proofs.Laws.Sending.{Sends-short, sent-all, sent-nothing, sent-piece, sent-short}
use Rattle.pef_report.proofs.found.print_findings.Goals as goal

pub loop-finding-init : goal.loop-finding-init
loop-finding-init g c = sent-nothing (g.W.Sink.stream c.args.out.now) c.args.page.now.items (findings_text c.args.base c.args.findings.now)

pub loop-finding-preserved : goal.loop-finding-preserved
loop-finding-preserved g c =
    let at = c.loop-finding in
    let findings = c.args.findings.now in
    let next = at_drop_more (findings_text c.args.base) findings at.finding-index no_finding c.loop-finding-test.true in
    sent-piece (findings_text c.args.base (drop (at.finding-index + 1) findings)) at.invariant next c.in_ok-print_text.ensures

pub returns-in_err-print_text : goal.returns-in_err-print_text
returns-in_err-print_text g c =
    let at = c.loop-finding in
    let findings = c.args.findings.now in
    let next = at_drop_more (findings_text c.args.base) findings at.finding-index no_finding c.loop-finding-test.true in
    Sends-short _ c.from_residual.result _ c.from_residual.ensures.1 (sent-short (findings_text c.args.base (drop (at.finding-index + 1) findings)) at.invariant next c.in_err-print_text.ensures)

pub returns : goal.returns
returns g c = sent-all c.loop-finding.invariant (ap (findings_text c.args.base) (drop_all c.loop-finding.finding-index c.args.findings.now c.loop-finding-test.false))
