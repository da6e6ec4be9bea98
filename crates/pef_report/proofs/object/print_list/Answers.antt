-- The key and the objects.
use Rattle.pef_report.specs.Inspection.{list_json}
use Rattle.pef_ports.proofs.Laws.Sending.{Sends-short, Sends-then, StopsShort-longer}
use Rattle.pef_report.proofs.object.print_list.Goals as goal

pub returns-in_err-send : goal.returns-in_err-send
unfolding list_json
returns-in_err-send g c = Sends-short _ c.from_residual.result _ c.from_residual.ensures.1 (StopsShort-longer _ c.in_err-send.ensures)

pub returns : goal.returns
unfolding list_json
returns g c = Sends-then c.print_chosen.result (g.W.Sink.stream c.print_chosen.new.out) _ _ c.in_ok-send.ensures c.print_chosen.ensures
