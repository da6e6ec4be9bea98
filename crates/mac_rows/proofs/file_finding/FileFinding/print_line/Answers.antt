-- One part after the other.
use Rattle.pef_ports.proofs.Laws.Sending.{Sends-short, Sends-then, StopsShort-longer, StopsShort-then}
use Rattle.mac_rows.proofs.file_finding.FileFinding.print_line.Goals as goal

pub returns-in_err-print_line_start : goal.returns-in_err-print_line_start
returns-in_err-print_line_start g c = Sends-short _ c.from_residual.result _ c.from_residual.ensures.1 (StopsShort-longer _ c.in_err-print_line_start.ensures)

pub returns-in_err-print_tail : goal.returns-in_err-print_tail
returns-in_err-print_tail g c =
    Sends-short _ c.from_residual-in_err-print_tail.result _ c.from_residual-in_err-print_tail.ensures.1
    (StopsShort-then c.in_ok-print_line_start.ensures (StopsShort-longer _ c.in_err-print_tail.ensures))

pub returns : goal.returns
returns g c =
    let stream = g.W.Sink.stream c.send.new.out in
    Sends-then c.send.result stream _ _ c.in_ok-print_line_start.ensures
    (Sends-then c.send.result stream _ _ c.in_ok-print_tail.ensures c.send.ensures)
