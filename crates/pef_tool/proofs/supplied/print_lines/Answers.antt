-- What `load` prints, the stubs, and the files.
use Rattle.std.proofs.Common.{◌++◌, List, ℕ, map, subst}
use Rattle.pef_ports.specs.Sent.{Sends}
use Rattle.pef_ports.proofs.Laws.Sending.{Sends-short, Sends-then, StopsShort-longer, StopsShort-then}
use Rattle.pef_gather.specs.Seen.{found_seen}
use Rattle.pef_tool.specs.Loaded.{order_in}
use Rattle.pef_tool.specs.Supplied.{sources_text, stubs_text}
use Rattle.pef_tool.proofs.supplied.print_lines.Goals as goal

pub returns-in_err-print_loaded : goal.returns-in_err-print_loaded
returns-in_err-print_loaded g c =
    let shown = c.args.shown.now in
    let order = order_in shown.loaded.context shown.loaded.connection.0 in
    Sends-short _ c.from_residual.result _ c.from_residual.ensures.1 (StopsShort-longer (stubs_text shown.stubs.now ++ sources_text (map found_seen shown.found.now) order) c.in_err-print_loaded.ensures)

pub returns-in_err-print_stubs : goal.returns-in_err-print_stubs
returns-in_err-print_stubs g c =
    let shown = c.args.shown.now in
    let order = order_in shown.loaded.context shown.loaded.connection.0 in
    Sends-short _ c.from_residual-in_err-print_stubs.result _ c.from_residual-in_err-print_stubs.ensures.1
    (StopsShort-then c.in_ok-print_loaded.ensures (StopsShort-longer (sources_text (map found_seen shown.found.now) order) c.in_err-print_stubs.ensures))

pub returns : goal.returns
returns g c =
    let shown = c.args.shown.now in
    let s = shown.loaded.context in
    let n = shown.loaded.connection.0 in
    let found = map found_seen shown.found.now in
    let P : List ℕ → Type 0 = λ order. Sends c.print_sources.result (g.W.Sink.stream c.print_stubs.new.out) (g.W.Sink.stream c.print_sources.new.out) c.print_stubs.new.page.items c.print_sources.new.page.items (sources_text found order) in
    let sources = subst P c.order_of-order.ensures c.print_sources.ensures in
    let rest = Sends-then c.print_sources.result (g.W.Sink.stream c.print_sources.new.out) c.print_sources.new.page.items (sources_text found (order_in s n)) c.in_ok-print_stubs.ensures sources in
    Sends-then c.print_sources.result (g.W.Sink.stream c.print_sources.new.out) c.print_sources.new.page.items (stubs_text shown.stubs.now ++ sources_text found (order_in s n)) c.in_ok-print_loaded.ensures rest
