-- The beginning of the object, and then its end.
use Rattle.pef_ports.proofs.Laws.Sending.{Sends-short, Sends-then, StopsShort-longer}
use Rattle.mac_rows.proofs.unread.UnreadFile.print_object.Goals as goal

pub returns-in_err-print_unread_object : goal.returns-in_err-print_unread_object
returns-in_err-print_unread_object g c = Sends-short _ c.from_residual.result _ c.from_residual.ensures.1 (StopsShort-longer _ c.in_err-print_unread_object.ensures)

pub returns : goal.returns
returns g c =
    rw c.reason_word.ensures at (Sends-then c.print_object_end.result (g.W.Sink.stream c.print_object_end.new.out) _ _ c.in_ok-print_unread_object.ensures c.print_object_end.ensures)
