-- One part after the other.
use Rattle.pef_ports.proofs.Laws.Sending.{Sends-short, Sends-then, StopsShort-longer, StopsShort-then}
use Rattle.mac_report.proofs.file.FileReport.print_json_head.Goals as goal

pub returns-in_err-print_beginning : goal.returns-in_err-print_beginning
returns-in_err-print_beginning g c = Sends-short _ c.from_residual.result _ c.from_residual.ensures.1 (StopsShort-longer _ c.in_err-print_beginning.ensures)

pub returns-in_err-print_fork_objects : goal.returns-in_err-print_fork_objects
returns-in_err-print_fork_objects g c = Sends-short _ c.from_residual-in_err-print_fork_objects.result _ c.from_residual-in_err-print_fork_objects.ensures.1 (StopsShort-then c.in_ok-print_beginning.ensures (StopsShort-longer _ c.in_err-print_fork_objects.ensures))

pub returns-in_err-print_record_member : goal.returns-in_err-print_record_member
returns-in_err-print_record_member g c = Sends-short _ c.from_residual-in_err-print_record_member.result _ c.from_residual-in_err-print_record_member.ensures.1 (StopsShort-then c.in_ok-print_beginning.ensures (StopsShort-then c.in_ok-print_fork_objects.ensures (StopsShort-longer _ c.in_err-print_record_member.ensures)))

pub returns-in_err-send : goal.returns-in_err-send
returns-in_err-send g c = Sends-short _ c.from_residual-in_err-send.result _ c.from_residual-in_err-send.ensures.1 (StopsShort-then c.in_ok-print_beginning.ensures (StopsShort-then c.in_ok-print_fork_objects.ensures (StopsShort-then c.in_ok-print_record_member.ensures (StopsShort-longer _ c.in_err-send.ensures))))

pub returns-in_err-print_resources : goal.returns-in_err-print_resources
returns-in_err-print_resources g c = Sends-short _ c.from_residual-in_err-print_resources.result _ c.from_residual-in_err-print_resources.ensures.1 (StopsShort-then c.in_ok-print_beginning.ensures (StopsShort-then c.in_ok-print_fork_objects.ensures (StopsShort-then c.in_ok-print_record_member.ensures (StopsShort-then c.in_ok-send.ensures (StopsShort-longer _ c.in_err-print_resources.ensures)))))

pub returns-in_err-send-2 : goal.returns-in_err-send-2
returns-in_err-send-2 g c = Sends-short _ c.from_residual-in_err-send-2.result _ c.from_residual-in_err-send-2.ensures.1 (StopsShort-then c.in_ok-print_beginning.ensures (StopsShort-then c.in_ok-print_fork_objects.ensures (StopsShort-then c.in_ok-print_record_member.ensures (StopsShort-then c.in_ok-send.ensures (StopsShort-then c.in_ok-print_resources.ensures (StopsShort-longer _ c.in_err-send-2.ensures))))))

pub returns-in_err-print_members : goal.returns-in_err-print_members
returns-in_err-print_members g c = Sends-short _ c.from_residual-in_err-print_members.result _ c.from_residual-in_err-print_members.ensures.1 (StopsShort-then c.in_ok-print_beginning.ensures (StopsShort-then c.in_ok-print_fork_objects.ensures (StopsShort-then c.in_ok-print_record_member.ensures (StopsShort-then c.in_ok-send.ensures (StopsShort-then c.in_ok-print_resources.ensures (StopsShort-then c.in_ok-send-2.ensures (StopsShort-longer _ c.in_err-print_members.ensures)))))))

pub returns : goal.returns
returns g c =
    let stream = g.W.Sink.stream c.send-3.new.out in
    Sends-then c.send-3.result stream _ _ c.in_ok-print_beginning.ensures
    (Sends-then c.send-3.result stream _ _ c.in_ok-print_fork_objects.ensures
    (Sends-then c.send-3.result stream _ _ c.in_ok-print_record_member.ensures
    (Sends-then c.send-3.result stream _ _ c.in_ok-send.ensures
    (Sends-then c.send-3.result stream _ _ c.in_ok-print_resources.ensures
    (Sends-then c.send-3.result stream _ _ c.in_ok-send-2.ensures
    (Sends-then c.send-3.result stream _ _ c.in_ok-print_members.ensures c.send-3.ensures))))))
