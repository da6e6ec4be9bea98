-- One part of the object after the other.
use Rattle.pef_ports.proofs.Laws.Sending.{Sends-short, Sends-then, StopsShort-longer, StopsShort-then}
use Rattle.mac_report.proofs.file.print_json_end.Goals as goal

pub returns-in_err-send : goal.returns-in_err-send
returns-in_err-send g c = Sends-short _ c.from_residual.result _ c.from_residual.ensures.1 (StopsShort-longer _ c.in_err-send.ensures)

pub returns-in_err-print_findings : goal.returns-in_err-print_findings
returns-in_err-print_findings g c = Sends-short _ c.from_residual-in_err-print_findings.result _ c.from_residual-in_err-print_findings.ensures.1 (StopsShort-then c.in_ok-send.ensures (StopsShort-longer _ c.in_err-print_findings.ensures))

pub returns-in_err-send-2 : goal.returns-in_err-send-2
returns-in_err-send-2 g c = Sends-short _ c.from_residual-in_err-send-2.result _ c.from_residual-in_err-send-2.ensures.1 (StopsShort-then c.in_ok-send.ensures (StopsShort-then c.in_ok-print_findings.ensures (StopsShort-longer _ c.in_err-send-2.ensures)))

pub returns-in_err-print_findings-2 : goal.returns-in_err-print_findings-2
returns-in_err-print_findings-2 g c = Sends-short _ c.from_residual-in_err-print_findings-2.result _ c.from_residual-in_err-print_findings-2.ensures.1 (StopsShort-then c.in_ok-send.ensures (StopsShort-then c.in_ok-print_findings.ensures (StopsShort-then c.in_ok-send-2.ensures (StopsShort-longer _ c.in_err-print_findings-2.ensures))))

pub returns-in_err-print_skipped_note : goal.returns-in_err-print_skipped_note
returns-in_err-print_skipped_note g c = Sends-short _ c.from_residual-in_err-print_skipped_note.result _ c.from_residual-in_err-print_skipped_note.ensures.1 (StopsShort-then c.in_ok-send.ensures (StopsShort-then c.in_ok-print_findings.ensures (StopsShort-then c.in_ok-send-2.ensures (StopsShort-then c.in_ok-print_findings-2.ensures (StopsShort-longer _ (rw c.none_of.ensures at c.in_err-print_skipped_note.ensures))))))

pub returns : goal.returns
returns g c =
    let stream = g.W.Sink.stream c.send-3.new.out in
    Sends-then c.send-3.result stream _ _ c.in_ok-send.ensures
    (Sends-then c.send-3.result stream _ _ c.in_ok-print_findings.ensures
    (Sends-then c.send-3.result stream _ _ c.in_ok-send-2.ensures
    (Sends-then c.send-3.result stream _ _ c.in_ok-print_findings-2.ensures
    (Sends-then c.send-3.result stream _ _ (rw c.none_of.ensures at c.in_ok-print_skipped_note.ensures) c.send-3.ensures))))
