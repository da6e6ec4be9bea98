-- The comma and the object.
use Rattle.pef_ports.proofs.Laws.Sending.{Sends-short, Sends-then, StopsShort-longer}
use Rattle.pef_report.proofs.members.print_element.Goals as goal

pub returns-in_err-print_separator-clause-sends : goal.returns-in_err-print_separator-clause-sends
returns-in_err-print_separator-clause-sends g c = Sends-short _ c.from_residual.result _ c.from_residual.ensures.1 (StopsShort-longer _ c.in_err-print_separator.ensures)

pub returns-clause-sends : goal.returns-clause-sends
returns-clause-sends g c = Sends-then c.print_object_at.result (g.W.Sink.stream c.print_object_at.new.out) _ _ c.in_ok-print_separator.ensures c.print_object_at.ensures.sends
