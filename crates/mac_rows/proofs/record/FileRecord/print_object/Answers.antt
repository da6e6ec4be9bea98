-- One part after the other.
use Rattle.pef_ports.proofs.Laws.Sending.{Sends-short, Sends-then, StopsShort-longer, StopsShort-then}
use Rattle.mac_rows.proofs.record.FileRecord.print_object.Goals as goal

pub returns-in_err-print_name_member : goal.returns-in_err-print_name_member
returns-in_err-print_name_member g c = Sends-short _ c.from_residual.result _ c.from_residual.ensures.1 (StopsShort-longer _ c.in_err-print_name_member.ensures)

pub returns-in_err-print_finder_object : goal.returns-in_err-print_finder_object
returns-in_err-print_finder_object g c = Sends-short _ c.from_residual-in_err-print_finder_object.result _ c.from_residual-in_err-print_finder_object.ensures.1 (StopsShort-then c.in_ok-print_name_member.ensures (StopsShort-longer _ c.in_err-print_finder_object.ensures))

pub returns : goal.returns
returns g c =
    let stream = g.W.Sink.stream c.print_members.new.out in
    Sends-then c.print_members.result stream _ _ c.in_ok-print_name_member.ensures
    (Sends-then c.print_members.result stream _ _ c.in_ok-print_finder_object.ensures c.print_members.ensures)
