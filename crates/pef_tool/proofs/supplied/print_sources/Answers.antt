-- Each of them sends its part.
use Rattle.std.proofs.Common.{◌+◌, drop, ap, map}
use Rattle.std.proofs.lemmas.List.{at_drop_more, drop_all}
use Rattle.pef_ports.proofs.Laws.Sending.{Sends-short, sent-all, sent-nothing, sent-piece, sent-short}
use Rattle.pef_gather.specs.Seen.{found_seen}
use Rattle.pef_tool.specs.Supplied.{sources_text}
use Rattle.pef_tool.proofs.supplied.print_sources.Goals as goal

pub loop-place-init : goal.loop-place-init
loop-place-init g c = sent-nothing (g.W.Sink.stream c.args.out.now) c.args.page.now.items (sources_text (map found_seen c.args.found.now) c.args.order.now)

pub returns-in_err-print_source : goal.returns-in_err-print_source
returns-in_err-print_source g c =
    let at = c.loop-place in
    let rest = sources_text (map found_seen c.args.found.now) (drop (at.place-index + 1) c.args.order.now) in
    let next = at_drop_more (sources_text (map found_seen c.args.found.now)) c.args.order.now at.place-index 0 c.loop-place-test.true in
    Sends-short _ c.from_residual.result _ c.from_residual.ensures.1 (sent-short rest at.invariant next c.in_err-print_source.ensures)

pub loop-place-preserved : goal.loop-place-preserved
loop-place-preserved g c =
    let at = c.loop-place in
    let rest = sources_text (map found_seen c.args.found.now) (drop (at.place-index + 1) c.args.order.now) in
    let next = at_drop_more (sources_text (map found_seen c.args.found.now)) c.args.order.now at.place-index 0 c.loop-place-test.true in
    sent-piece rest at.invariant next c.in_ok-print_source.ensures

pub returns : goal.returns
returns g c = sent-all c.loop-place.invariant (ap (sources_text (map found_seen c.args.found.now)) (drop_all c.loop-place.place-index c.args.order.now c.loop-place-test.false))
