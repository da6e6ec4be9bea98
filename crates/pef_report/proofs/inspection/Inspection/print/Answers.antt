-- The rows with the findings among them, then the findings that are left, and the verdict.
use Rattle.pef_report.specs.Inspection.{inspection_text}
use Rattle.pef_ports.proofs.Laws.Sending.{Sends-short, Sends-then, StopsShort-longer, StopsShort-then}
use Rattle.pef_report.proofs.inspection.Inspection.print.Goals as goal

pub returns-in_err-print_parts : goal.returns-in_err-print_parts
unfolding inspection_text
returns-in_err-print_parts g c = Sends-short _ c.from_residual.result _ c.from_residual.ensures.1 (StopsShort-longer _ (rw (c.new.ensures, c.deref.ensures.value) at c.in_err-print_parts.ensures.sends))

pub returns-in_err-print_findings : goal.returns-in_err-print_findings
unfolding inspection_text
returns-in_err-print_findings g c =
    Sends-short _ c.from_residual-in_err-print_findings.result _ c.from_residual-in_err-print_findings.ensures.1
    (StopsShort-then (rw (c.new.ensures, c.deref.ensures.value) at c.in_ok-print_parts.ensures.sends)
    (StopsShort-longer _ (rw (c.in_ok-print_parts.ensures.passes.left, c.new.ensures, c.deref.ensures.value) at c.in_err-print_findings.ensures)))

pub returns : goal.returns
unfolding inspection_text
returns g c =
    let stream = g.W.Sink.stream c.print.new.out in
    Sends-then c.print.result stream _ _ (rw (c.new.ensures, c.deref.ensures.value) at c.in_ok-print_parts.ensures.sends)
    (Sends-then c.print.result stream _ _ (rw (c.in_ok-print_parts.ensures.passes.left, c.new.ensures, c.deref.ensures.value) at c.in_ok-print_findings.ensures)
    (rw c.verdict.ensures at c.print.ensures))
