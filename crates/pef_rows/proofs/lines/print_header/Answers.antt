-- The words of a listing and more, and then the architecture.
use Rattle.pef_rows.specs.Lines.{architecture_end, header_line}
use Rattle.pef_ports.proofs.Laws.Sending.{Sends-short, Sends-then, StopsShort-longer}
use Rattle.pef_rows.proofs.lines.print_header.Goals as goal

pub returns-in_err-print_header_words : goal.returns-in_err-print_header_words
unfolding header_line
returns-in_err-print_header_words g c = Sends-short _ c.from_residual.result _ c.from_residual.ensures.1 (StopsShort-longer (architecture_end c.args.row.header.architecture) c.in_err-print_header_words.ensures)

pub returns : goal.returns
unfolding header_line
returns g c = Sends-then c.print_architecture.result (g.W.Sink.stream c.print_architecture.new.out) _ _ c.in_ok-print_header_words.ensures c.print_architecture.ensures
