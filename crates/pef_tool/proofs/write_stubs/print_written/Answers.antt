-- The line of the stub, and then those of its symbols.
use Rattle.pef_ports.proofs.Laws.Sending.{Sends-short, Sends-then, StopsShort-longer}
use Rattle.cfm_rows.specs.Symbols.{symbol_lines}
use Rattle.pef_tool.proofs.write_stubs.print_written.Goals as goal

pub returns-in_err-print_written_line : goal.returns-in_err-print_written_line
returns-in_err-print_written_line g c =
    Sends-short _ c.from_residual.result _ c.from_residual.ensures.1 (StopsShort-longer (symbol_lines c.args.file.now.stub.now.exports) c.in_err-print_written_line.ensures)

pub returns : goal.returns
returns g c =
    Sends-then c.print_symbol_lines.result (g.W.Sink.stream c.print_symbol_lines.new.out) c.print_symbol_lines.new.page.items (symbol_lines c.args.file.now.stub.now.exports) c.in_ok-print_written_line.ensures c.print_symbol_lines.ensures
