-- Each byte sends its digits.
use Rattle.std.proofs.Common.{ap}
use Rattle.std.proofs.lemmas.List.{at_drop_more, drop_all}
use Rattle.pef_ports.specs.Text.{hex_text}
use Rattle.pef_ports.proofs.Laws.Sending.{Sends-short, sent-all, sent-nothing, sent-piece, sent-short}
use Rattle.pef_rows.proofs.tokens.print_octets.Goals as goal

pub loop-b-init : goal.loop-b-init
loop-b-init g c = sent-nothing (g.W.Sink.stream c.args.out.now) c.args.page.now.items (hex_text c.args.bytes.now)

pub loop-b-preserved : goal.loop-b-preserved
loop-b-preserved g c = sent-piece _ c.loop-b.invariant (at_drop_more hex_text c.args.bytes.now c.loop-b.b-index 0 c.loop-b-test.true) c.in_ok-print_pieces.ensures

pub returns-in_err-print_pieces : goal.returns-in_err-print_pieces
returns-in_err-print_pieces g c =
    Sends-short _ c.from_residual.result _ c.from_residual.ensures.1 (sent-short _ c.loop-b.invariant (at_drop_more hex_text c.args.bytes.now c.loop-b.b-index 0 c.loop-b-test.true) c.in_err-print_pieces.ensures)

pub returns : goal.returns
returns g c = sent-all c.loop-b.invariant (ap hex_text (drop_all c.loop-b.b-index c.args.bytes.now c.loop-b-test.false))
