-- The key and then the bytes.
use Rattle.pef_ports.specs.Text.{hex_text}
use Rattle.pef_rows.specs.Tokens.{hex_bytes}
use Rattle.pef_ports.proofs.Laws.Sending.{Sends-short, Sends-then, StopsShort-longer}
use Rattle.pef_rows.proofs.tokens.print_hex_bytes.Goals as goal

pub returns-in_err-print_pieces : goal.returns-in_err-print_pieces
unfolding hex_bytes
returns-in_err-print_pieces g c = Sends-short _ c.from_residual.result _ c.from_residual.ensures.1 (StopsShort-longer (hex_text c.args.name.now) c.in_err-print_pieces.ensures)

pub returns : goal.returns
unfolding hex_bytes
returns g c = Sends-then c.print_octets.result (g.W.Sink.stream c.print_octets.new.out) _ _ c.in_ok-print_pieces.ensures c.print_octets.ensures
