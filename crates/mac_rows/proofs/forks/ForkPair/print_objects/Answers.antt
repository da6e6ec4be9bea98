-- One fork after the other.
use Rattle.pef_ports.proofs.Laws.Sending.{Sends-short, Sends-then, StopsShort-longer, StopsShort-then}
use Rattle.mac_rows.proofs.forks.ForkPair.print_objects.Goals as goal

pub returns-in_err-print_object : goal.returns-in_err-print_object
returns-in_err-print_object g c = Sends-short _ c.from_residual.result _ c.from_residual.ensures.1 (StopsShort-longer _ c.in_err-print_object.ensures)

pub returns-in_err-print_between : goal.returns-in_err-print_between
returns-in_err-print_between g c = Sends-short _ c.from_residual-in_err-print_between.result _ c.from_residual-in_err-print_between.ensures.1 (StopsShort-then c.in_ok-print_object.ensures (StopsShort-longer _ c.in_err-print_between.ensures))

pub returns : goal.returns
returns g c = Sends-then c.print_object-2.result (g.W.Sink.stream c.print_object-2.new.out) _ _ c.in_ok-print_object.ensures (Sends-then c.print_object-2.result (g.W.Sink.stream c.print_object-2.new.out) _ _ c.in_ok-print_between.ensures c.print_object-2.ensures)
