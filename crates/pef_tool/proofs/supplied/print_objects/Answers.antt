-- The fragments, and then the stubs.
use Rattle.std.proofs.Common.{ap, map}
use Rattle.pef_ports.proofs.Laws.Sending.{Sends-short, Sends-then, StopsShort-longer, same_printed, same_short}
use Rattle.cfm_rows.specs.Sections.{bytes_shown}
use Rattle.pef_gather.specs.Seen.{found_seen}
use Rattle.pef_tool.specs.Supplied.{fragment_objects, stub_objects}
use Rattle.pef_tool.proofs.supplied.print_objects.Goals as goal

pub returns-in_err-print_fragment_objects : goal.returns-in_err-print_fragment_objects
returns-in_err-print_fragment_objects g c =
    let shown = c.args.shown.now in
    let same = ap (fragment_objects (bytes_shown c.args.bytes) shown.loaded.context shown.loaded.connection.0 (map found_seen shown.found.now)) c.order_of-order.ensures in
    Sends-short _ c.from_residual.result _ c.from_residual.ensures.1 (StopsShort-longer (stub_objects shown.stubs.now) (same_short same c.in_err-print_fragment_objects.ensures))

pub returns : goal.returns
returns g c =
    let shown = c.args.shown.now in
    let same = ap (fragment_objects (bytes_shown c.args.bytes) shown.loaded.context shown.loaded.connection.0 (map found_seen shown.found.now)) c.order_of-order.ensures in
    Sends-then c.print_stub_objects.result (g.W.Sink.stream c.print_stub_objects.new.out) c.print_stub_objects.new.page.items (stub_objects shown.stubs.now) (same_printed same c.in_ok-print_fragment_objects.ensures) c.print_stub_objects.ensures
