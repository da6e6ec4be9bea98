-- One fork after the other.
use Rattle.pef_ports.proofs.Laws.Sending.{Sends-short, Sends-then, StopsShort-longer}
use Rattle.mac_rows.proofs.forks.ForkPair.print_lines.Goals as goal

pub returns-in_err-print_line : goal.returns-in_err-print_line
returns-in_err-print_line g c = Sends-short _ c.from_residual.result _ c.from_residual.ensures.1 (StopsShort-longer _ c.in_err-print_line.ensures)

pub returns : goal.returns
returns g c = Sends-then c.print_line-2.result (g.W.Sink.stream c.print_line-2.new.out) _ _ c.in_ok-print_line.ensures c.print_line-2.ensures
