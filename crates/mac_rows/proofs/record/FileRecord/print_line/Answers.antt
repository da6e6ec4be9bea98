-- One part after the other.
use Rattle.pef_ports.proofs.Laws.Sending.{Sends-short, Sends-then, StopsShort-longer, StopsShort-then}
use Rattle.mac_rows.proofs.record.FileRecord.print_line.Goals as goal

pub returns-in_err-print_name : goal.returns-in_err-print_name
returns-in_err-print_name g c = Sends-short _ c.from_residual.result _ c.from_residual.ensures.1 (StopsShort-longer _ c.in_err-print_name.ensures)

pub returns-in_err-print_finder : goal.returns-in_err-print_finder
returns-in_err-print_finder g c = Sends-short _ c.from_residual-in_err-print_finder.result _ c.from_residual-in_err-print_finder.ensures.1 (StopsShort-then c.in_ok-print_name.ensures (StopsShort-longer _ c.in_err-print_finder.ensures))

pub returns : goal.returns
returns g c =
    let stream = g.W.Sink.stream c.print.new.out in
    Sends-then c.print.result stream _ _ c.in_ok-print_name.ensures
    (Sends-then c.print.result stream _ _ c.in_ok-print_finder.ensures c.print.ensures)
