-- The note, and then the counts.
use Rattle.pef_ports.proofs.Laws.Sending.{Sends-short, Sends-then, StopsShort-longer}
use Rattle.mac_report.proofs.file.print_text_end.Goals as goal

pub returns-in_err-print_skipped : goal.returns-in_err-print_skipped
returns-in_err-print_skipped g c = Sends-short _ c.from_residual.result _ c.from_residual.ensures.1 (StopsShort-longer _ c.in_err-print_skipped.ensures)

pub returns : goal.returns
returns g c = Sends-then c.print_counts.result (g.W.Sink.stream c.print_counts.new.out) _ _ c.in_ok-print_skipped.ensures c.print_counts.ensures
