-- The stub and then its symbols.
use Rattle.cfm_rows.specs.Symbols.{stub_lines}
use Rattle.pef_ports.proofs.Laws.Sending.{Sends-short, Sends-then, StopsShort-longer}
use Rattle.cfm_rows.proofs.symbols.print_stub_lines.Goals as goal

pub returns-in_err-print_stub_line : goal.returns-in_err-print_stub_line
unfolding stub_lines
returns-in_err-print_stub_line g c = Sends-short _ c.from_residual.result _ c.from_residual.ensures.1 (StopsShort-longer _ (rw c.name.ensures at c.in_err-print_stub_line.ensures))

pub returns : goal.returns
unfolding stub_lines
returns g c = Sends-then c.print_symbol_lines.result (g.W.Sink.stream c.print_symbol_lines.new.out) _ _ (rw c.name.ensures at c.in_ok-print_stub_line.ensures) (c.print_symbol_lines.ensures)
