-- One part after the other.
use Rattle.pef_ports.proofs.Laws.Sending.{Sends-short, Sends-then, StopsShort-longer, StopsShort-then}
use Rattle.mac_report.proofs.file.FileReport.print_text_head.Goals as goal

pub returns-in_err-print_first_line : goal.returns-in_err-print_first_line
returns-in_err-print_first_line g c = Sends-short _ c.from_residual.result _ c.from_residual.ensures.1 (StopsShort-longer _ c.in_err-print_first_line.ensures)

pub returns-in_err-print_fork_lines : goal.returns-in_err-print_fork_lines
returns-in_err-print_fork_lines g c = Sends-short _ c.from_residual-in_err-print_fork_lines.result _ c.from_residual-in_err-print_fork_lines.ensures.1 (StopsShort-then c.in_ok-print_first_line.ensures (StopsShort-longer _ c.in_err-print_fork_lines.ensures))

pub returns-in_err-print_record_line : goal.returns-in_err-print_record_line
returns-in_err-print_record_line g c = Sends-short _ c.from_residual-in_err-print_record_line.result _ c.from_residual-in_err-print_record_line.ensures.1 (StopsShort-then c.in_ok-print_first_line.ensures (StopsShort-then c.in_ok-print_fork_lines.ensures (StopsShort-longer _ c.in_err-print_record_line.ensures)))

pub returns-in_err-print_resources : goal.returns-in_err-print_resources
returns-in_err-print_resources g c = Sends-short _ c.from_residual-in_err-print_resources.result _ c.from_residual-in_err-print_resources.ensures.1 (StopsShort-then c.in_ok-print_first_line.ensures (StopsShort-then c.in_ok-print_fork_lines.ensures (StopsShort-then c.in_ok-print_record_line.ensures (StopsShort-longer _ c.in_err-print_resources.ensures))))

pub returns-in_err-print_members : goal.returns-in_err-print_members
returns-in_err-print_members g c = Sends-short _ c.from_residual-in_err-print_members.result _ c.from_residual-in_err-print_members.ensures.1 (StopsShort-then c.in_ok-print_first_line.ensures (StopsShort-then c.in_ok-print_fork_lines.ensures (StopsShort-then c.in_ok-print_record_line.ensures (StopsShort-then c.in_ok-print_resources.ensures (StopsShort-longer _ c.in_err-print_members.ensures)))))

pub returns-in_err-print_findings : goal.returns-in_err-print_findings
returns-in_err-print_findings g c = Sends-short _ c.from_residual-in_err-print_findings.result _ c.from_residual-in_err-print_findings.ensures.1 (StopsShort-then c.in_ok-print_first_line.ensures (StopsShort-then c.in_ok-print_fork_lines.ensures (StopsShort-then c.in_ok-print_record_line.ensures (StopsShort-then c.in_ok-print_resources.ensures (StopsShort-then c.in_ok-print_members.ensures (StopsShort-longer _ c.in_err-print_findings.ensures))))))

pub returns : goal.returns
returns g c =
    let stream = g.W.Sink.stream c.print_findings-2.new.out in
    Sends-then c.print_findings-2.result stream _ _ c.in_ok-print_first_line.ensures
    (Sends-then c.print_findings-2.result stream _ _ c.in_ok-print_fork_lines.ensures
    (Sends-then c.print_findings-2.result stream _ _ c.in_ok-print_record_line.ensures
    (Sends-then c.print_findings-2.result stream _ _ c.in_ok-print_resources.ensures
    (Sends-then c.print_findings-2.result stream _ _ c.in_ok-print_members.ensures
    (Sends-then c.print_findings-2.result stream _ _ c.in_ok-print_findings.ensures c.print_findings-2.ensures)))))
