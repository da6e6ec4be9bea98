-- One part of the line after the other.
use Rattle.pef_ports.proofs.Laws.Sending.{Sends-short, Sends-then, StopsShort-longer, StopsShort-then}
use Rattle.mac_rows.proofs.fragments.Fragment.print_line.Goals as goal

pub returns-in_err-print_name : goal.returns-in_err-print_name
returns-in_err-print_name g c = Sends-short _ c.from_residual.result _ c.from_residual.ensures.1 (StopsShort-longer _ c.in_err-print_name.ensures)

pub returns-in_err-print_architecture : goal.returns-in_err-print_architecture
returns-in_err-print_architecture g c = Sends-short _ c.from_residual-in_err-print_architecture.result _ c.from_residual-in_err-print_architecture.ensures.1 (StopsShort-then c.in_ok-print_name.ensures (StopsShort-longer _ c.in_err-print_architecture.ensures))

pub returns-in_err-print_use : goal.returns-in_err-print_use
returns-in_err-print_use g c = Sends-short _ c.from_residual-in_err-print_use.result _ c.from_residual-in_err-print_use.ensures.1 (StopsShort-then c.in_ok-print_name.ensures (StopsShort-then c.in_ok-print_architecture.ensures (StopsShort-longer _ c.in_err-print_use.ensures)))

pub returns : goal.returns
returns g c = Sends-then c.print_numbers.result (g.W.Sink.stream c.print_numbers.new.out) _ _ c.in_ok-print_name.ensures (Sends-then c.print_numbers.result (g.W.Sink.stream c.print_numbers.new.out) _ _ c.in_ok-print_architecture.ensures (Sends-then c.print_numbers.result (g.W.Sink.stream c.print_numbers.new.out) _ _ c.in_ok-print_use.ensures c.print_numbers.ensures))
