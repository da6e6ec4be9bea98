-- The rows, the errors, the notes, and the verdict.
use Rattle.pef_report.specs.Inspection.{object_within}
use Rattle.pef_ports.proofs.Laws.Sending.{Sends-short, Sends-then, StopsShort-longer, StopsShort-then}
use Rattle.pef_report.proofs.object.print_object.Goals as goal

pub returns-in_err-print_rows : goal.returns-in_err-print_rows
unfolding object_within
returns-in_err-print_rows g c = Sends-short _ c.from_residual.result _ c.from_residual.ensures.1 (StopsShort-longer _ c.in_err-print_rows.ensures)

pub returns-in_err-print_list : goal.returns-in_err-print_list
unfolding object_within
returns-in_err-print_list g c =
    Sends-short _ c.from_residual-in_err-print_list.result _ c.from_residual-in_err-print_list.ensures.1
    (StopsShort-then c.in_ok-print_rows.ensures (StopsShort-longer _ c.in_err-print_list.ensures))

pub returns-in_err-print_list-2 : goal.returns-in_err-print_list-2
unfolding object_within
returns-in_err-print_list-2 g c =
    Sends-short _ c.from_residual-in_err-print_list-2.result _ c.from_residual-in_err-print_list-2.ensures.1
    (StopsShort-then c.in_ok-print_rows.ensures (StopsShort-then c.in_ok-print_list.ensures (StopsShort-longer _ c.in_err-print_list-2.ensures)))

pub returns : goal.returns
unfolding object_within
returns g c =
    let stream = g.W.Sink.stream c.print_member.new.out in
    Sends-then c.print_member.result stream _ _ c.in_ok-print_rows.ensures
    (Sends-then c.print_member.result stream _ _ c.in_ok-print_list.ensures
    (Sends-then c.print_member.result stream _ _ c.in_ok-print_list-2.ensures c.print_member.ensures))
