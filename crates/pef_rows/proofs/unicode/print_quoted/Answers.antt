-- A quotation mark, the characters, and another mark.
use Rattle.pef_ports.proofs.Laws.Sending.{Sends-short, Sends-then, StopsShort-longer, StopsShort-then}
use Rattle.pef_rows.proofs.unicode.print_quoted.Goals as goal

pub returns-in_err-send : goal.returns-in_err-send
returns-in_err-send g c = Sends-short _ c.from_residual.result _ c.from_residual.ensures.1 (StopsShort-longer _ c.in_err-send.ensures)

pub returns-in_err-print_characters : goal.returns-in_err-print_characters
returns-in_err-print_characters g c = Sends-short _ c.from_residual-in_err-print_characters.result _ c.from_residual-in_err-print_characters.ensures.1 (StopsShort-then c.in_ok-send.ensures (StopsShort-longer _ c.in_err-print_characters.ensures))

pub returns : goal.returns
returns g c = Sends-then c.send-2.result (g.W.Sink.stream c.send-2.new.out) _ _ c.in_ok-send.ensures (Sends-then c.send-2.result (g.W.Sink.stream c.send-2.new.out) _ _ c.in_ok-print_characters.ensures c.send-2.ensures)
