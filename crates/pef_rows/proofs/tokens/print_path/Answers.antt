-- Each byte sends its character.
use Rattle.std.proofs.Common.{ap}
use Rattle.std.proofs.lemmas.List.{at_drop_more, drop_all}
use Rattle.pef_rows.specs.Tokens.{path_text}
use Rattle.pef_ports.proofs.Laws.Sending.{Sends-short, sent-all, sent-nothing, sent-piece, sent-short}
use Rattle.pef_rows.proofs.tokens.print_path.Goals as goal

pub loop-b-init : goal.loop-b-init
loop-b-init g c = sent-nothing (g.W.Sink.stream c.args.out.now) c.args.page.now.items (path_text c.args.path.now)

pub loop-b-preserved : goal.loop-b-preserved
loop-b-preserved g c = sent-piece _ c.loop-b.invariant (at_drop_more path_text c.args.path.now c.loop-b.b-index 0 c.loop-b-test.true) c.in_ok-print_path_byte.ensures

pub returns-in_err-print_path_byte : goal.returns-in_err-print_path_byte
returns-in_err-print_path_byte g c =
    Sends-short _ c.from_residual.result _ c.from_residual.ensures.1 (sent-short _ c.loop-b.invariant (at_drop_more path_text c.args.path.now c.loop-b.b-index 0 c.loop-b-test.true) c.in_err-print_path_byte.ensures)

pub returns : goal.returns
returns g c = sent-all c.loop-b.invariant (ap path_text (drop_all c.loop-b.b-index c.args.path.now c.loop-b-test.false))
