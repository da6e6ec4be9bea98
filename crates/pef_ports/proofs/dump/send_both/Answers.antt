use Rattle.pef_ports.proofs.Laws.Sending.{Sends-short, Sends-then, StopsShort-longer}
use Rattle.pef_ports.proofs.dump.send_both.Goals as goal

pub returns-in_err-send : goal.returns-in_err-send
returns-in_err-send g c = Sends-short _ c.from_residual.result _ c.from_residual.ensures.1 (StopsShort-longer c.args.second.now c.in_err-send.ensures)

pub returns : goal.returns
returns g c = Sends-then c.send-2.result (g.W.Sink.stream c.send-2.new.out) c.send-2.new.page.items c.args.second.now c.in_ok-send.ensures c.send-2.ensures
