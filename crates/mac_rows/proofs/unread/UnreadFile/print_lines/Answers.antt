-- One line after the other.
use Rattle.pef_ports.proofs.Laws.Sending.{Sends-short, Sends-then, StopsShort-longer, StopsShort-then}
use Rattle.pef_rows.specs.Frames.{counts_line}
use Rattle.mac_rows.specs.Unread.{unread_counts}
use Rattle.mac_rows.proofs.unread.UnreadFile.print_lines.Goals as goal

pub returns-in_err-print_unread_line : goal.returns-in_err-print_unread_line
returns-in_err-print_unread_line g c = Sends-short _ c.from_residual.result _ c.from_residual.ensures.1 (StopsShort-longer _ c.in_err-print_unread_line.ensures)

pub returns-in_err-print_error_line : goal.returns-in_err-print_error_line
returns-in_err-print_error_line g c =
    let r = c.from_residual-in_err-print_error_line in
    rw c.reason_word.ensures at (Sends-short _ r.result c.print_error_line.new.page.items r.ensures.1 (StopsShort-then c.in_ok-print_unread_line.ensures (StopsShort-longer (counts_line unread_counts) c.in_err-print_error_line.ensures)))

pub returns : goal.returns
returns g c =
    let stream = g.W.Sink.stream in
    rw c.reason_word.ensures at (Sends-then c.print_counts.result (stream c.print_counts.new.out) _ _ c.in_ok-print_unread_line.ensures (Sends-then c.print_counts.result (stream c.print_counts.new.out) _ _ c.in_ok-print_error_line.ensures c.print_counts.ensures))
