-- The first part and then the other.
use Rattle.pef_ports.proofs.Laws.Sending.{Sends-short, Sends-then, StopsShort-longer}
use Rattle.pef_ports.proofs.chain.JoinedPrinted.print.Goals as goal

pub returns-in_err-print : goal.returns-in_err-print
returns-in_err-print g c = Sends-short _ c.from_residual.result _ c.from_residual.ensures.1 (StopsShort-longer (g.B.Printed.text c.args.self.now.1) c.in_err-print.ensures)

pub returns : goal.returns
returns g c = Sends-then c.print-2.result (g.W.Sink.stream c.print-2.new.out) c.print-2.new.page.items (g.B.Printed.text c.args.self.now.1) c.in_ok-print.ensures c.print-2.ensures
