-- Each of them sends its object.
use Rattle.std.proofs.Common.{◌+◌, drop, ap, map}
use Rattle.std.proofs.lemmas.List.{at_drop_more, drop_all}
use Rattle.cfm_rows.specs.Sections.{bytes_shown}
use Rattle.pef_gather.specs.Seen.{found_seen}
use Rattle.pef_ports.proofs.Laws.Sending.{Sends-short, sent-all, sent-nothing, sent-piece, sent-short}
use Rattle.pef_tool.specs.Supplied.{fragment_objects}
use Rattle.pef_tool.proofs.supplied.print_fragment_objects.Goals as goal

pub loop-place-init : goal.loop-place-init
loop-place-init g c =
    let shown = c.args.shown.now in
    let text = fragment_objects (bytes_shown c.args.bytes) shown.loaded.context shown.loaded.connection.0 (map found_seen shown.found.now) in
    sent-nothing (g.W.Sink.stream c.args.out.now) c.args.page.now.items (text c.args.order.now)

pub returns-in_err-print_fragment : goal.returns-in_err-print_fragment
returns-in_err-print_fragment g c =
    let at = c.loop-place in
    let shown = c.args.shown.now in
    let text = fragment_objects (bytes_shown c.args.bytes) shown.loaded.context shown.loaded.connection.0 (map found_seen shown.found.now) in
    let rest = text (drop (at.place-index + 1) c.args.order.now) in
    let next = at_drop_more text c.args.order.now at.place-index 0 c.loop-place-test.true in
    Sends-short _ c.from_residual.result _ c.from_residual.ensures.1 (sent-short rest at.invariant next c.in_err-print_fragment.ensures)

pub loop-place-preserved : goal.loop-place-preserved
loop-place-preserved g c =
    let at = c.loop-place in
    let shown = c.args.shown.now in
    let text = fragment_objects (bytes_shown c.args.bytes) shown.loaded.context shown.loaded.connection.0 (map found_seen shown.found.now) in
    let rest = text (drop (at.place-index + 1) c.args.order.now) in
    let next = at_drop_more text c.args.order.now at.place-index 0 c.loop-place-test.true in
    sent-piece rest at.invariant next c.in_ok-print_fragment.ensures

pub returns : goal.returns
returns g c =
    let shown = c.args.shown.now in
    let text = fragment_objects (bytes_shown c.args.bytes) shown.loaded.context shown.loaded.connection.0 (map found_seen shown.found.now) in
    sent-all c.loop-place.invariant (ap text (drop_all c.loop-place.place-index c.args.order.now c.loop-place-test.false))
