-- The comma and the object.
use Rattle.pef_ports.proofs.Laws.Sending.{Sends-short, Sends-then, StopsShort-longer}
use Rattle.cfm_rows.proofs.relocations.print_next.Goals as goal

pub returns-in_err-print_separator : goal.returns-in_err-print_separator
returns-in_err-print_separator g c = Sends-short _ c.from_residual.result _ c.from_residual.ensures.1 (StopsShort-longer _ c.in_err-print_separator.ensures)

pub returns : goal.returns
returns g c = Sends-then c.print_relocation.result (g.W.Sink.stream c.print_relocation.new.out) _ _ c.in_ok-print_separator.ensures (c.print_relocation.ensures)
