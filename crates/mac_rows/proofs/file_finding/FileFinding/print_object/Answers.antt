-- One part after the other.
use Rattle.pef_ports.proofs.Laws.Sending.{Sends-short, Sends-then, StopsShort-longer, StopsShort-then}
use Rattle.mac_rows.proofs.file_finding.FileFinding.print_object.Goals as goal

pub returns-in_err-print_object_start : goal.returns-in_err-print_object_start
returns-in_err-print_object_start g c = Sends-short _ c.from_residual.result _ c.from_residual.ensures.1 (StopsShort-longer _ c.in_err-print_object_start.ensures)

pub returns-in_err-print_members : goal.returns-in_err-print_members
returns-in_err-print_members g c =
    Sends-short _ c.from_residual-in_err-print_members.result _ c.from_residual-in_err-print_members.ensures.1
    (StopsShort-then c.in_ok-print_object_start.ensures (StopsShort-longer _ c.in_err-print_members.ensures))

pub returns : goal.returns
returns g c =
    let stream = g.W.Sink.stream c.send.new.out in
    Sends-then c.send.result stream _ _ c.in_ok-print_object_start.ensures
    (Sends-then c.send.result stream _ _ c.in_ok-print_members.ensures c.send.ensures)
