-- The offset and the members.
use Rattle.pef_report.specs.Inspection.{rows_json}
use Rattle.pef_ports.proofs.Laws.Sending.{Sends-short, Sends-then, StopsShort-longer}
use Rattle.pef_report.proofs.object.print_rows.Goals as goal

pub returns-in_err-print_tokens : goal.returns-in_err-print_tokens
unfolding rows_json
returns-in_err-print_tokens g c = Sends-short _ c.from_residual.result _ c.from_residual.ensures.1 (StopsShort-longer _ c.in_err-print_tokens.ensures)

pub returns : goal.returns
unfolding rows_json
returns g c = Sends-then c.print_members.result (g.W.Sink.stream c.print_members.new.out) _ _ c.in_ok-print_tokens.ensures (rw (c.new-reading.ensures, c.row_members.ensures) at c.print_members.ensures)
