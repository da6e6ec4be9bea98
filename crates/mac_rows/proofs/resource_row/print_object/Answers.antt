-- One part after the other.
use Rattle.pef_ports.proofs.Laws.Sending.{Sends-short, Sends-then, StopsShort-longer}
use Rattle.mac_rows.proofs.resource_row.print_object.Goals as goal

pub returns-in_err-print_front : goal.returns-in_err-print_front
returns-in_err-print_front g c = Sends-short _ c.from_residual.result _ c.from_residual.ensures.1 (StopsShort-longer _ c.in_err-print_front.ensures)

pub returns : goal.returns
returns g c =
    let stream = g.W.Sink.stream c.print_back.new.out in
    Sends-then c.print_back.result stream _ _ c.in_ok-print_front.ensures c.print_back.ensures
