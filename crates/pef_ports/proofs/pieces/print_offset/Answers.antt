-- The start and then the digits.
use Rattle.pef_ports.specs.Text.{digits_text}
use Rattle.pef_ports.proofs.Laws.Sending.{Sends-short, Sends-then, StopsShort-longer}
use Rattle.pef_ports.proofs.pieces.print_offset.Goals as goal

pub returns-in_err-send : goal.returns-in_err-send
returns-in_err-send g c = Sends-short _ c.from_residual.result _ c.from_residual.ensures.1 (StopsShort-longer (digits_text c.args.n) c.in_err-send.ensures)

pub returns : goal.returns
returns g c = Sends-then c.print_digits.result (g.W.Sink.stream c.print_digits.new.out) c.print_digits.new.page.items (digits_text c.args.n) c.in_ok-send.ensures c.print_digits.ensures
