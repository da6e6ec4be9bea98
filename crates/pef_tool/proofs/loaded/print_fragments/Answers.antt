-- Each fragment sends its text.
use Rattle.std.proofs.Common.{◌+◌, drop, ap}
use Rattle.std.proofs.lemmas.List.{at_drop_more, drop_all}
use Rattle.pef_ports.proofs.Laws.Sending.{Sends-short, sent-all, sent-nothing, sent-piece, sent-short}
use Rattle.pef_tool.specs.Loaded.{fragments_text}
use Rattle.pef_tool.proofs.loaded.print_fragments.Goals as goal

pub loop-position-init : goal.loop-position-init
loop-position-init g c = sent-nothing (g.W.Sink.stream c.args.out.now) c.args.page.now.items (fragments_text c.args.context.now c.args.order.now)

pub returns-in_err-print_fragment : goal.returns-in_err-print_fragment
returns-in_err-print_fragment g c =
    let at = c.loop-position in
    let order = c.args.order.now in
    let rest = fragments_text c.args.context.now (drop (at.position-index + 1) order) in
    let next = at_drop_more (fragments_text c.args.context.now) order at.position-index 0 c.loop-position-test.true in
    Sends-short _ c.from_residual.result _ c.from_residual.ensures.1 (sent-short rest at.invariant next c.in_err-print_fragment.ensures)

pub loop-position-preserved : goal.loop-position-preserved
loop-position-preserved g c =
    let at = c.loop-position in
    let order = c.args.order.now in
    let rest = fragments_text c.args.context.now (drop (at.position-index + 1) order) in
    let next = at_drop_more (fragments_text c.args.context.now) order at.position-index 0 c.loop-position-test.true in
    sent-piece rest at.invariant next c.in_ok-print_fragment.ensures

pub returns : goal.returns
returns g c = sent-all c.loop-position.invariant (ap (fragments_text c.args.context.now) (drop_all c.loop-position.position-index c.args.order.now c.loop-position-test.false))
