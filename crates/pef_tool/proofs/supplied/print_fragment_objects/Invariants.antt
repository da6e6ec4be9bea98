-- Those so far were sent.
use Rattle.std.proofs.Common.{drop, map}
use Rattle.cfm_rows.specs.Sections.{bytes_shown}
use Rattle.pef_gather.specs.Seen.{found_seen}
use Rattle.pef_ports.proofs.Laws.Sending.{IsSentUpTo}
use Rattle.pef_tool.specs.Supplied.{fragment_objects}
use Rattle.pef_tool.proofs.supplied.print_fragment_objects.Given as goal

abbrev pub invariant-loop-place : goal.invariant-loop-place
invariant-loop-place g l = IsSentUpTo (g.W.Sink.stream l.fn.out) (g.W.Sink.stream l.out) l.fn.page.items l.page.items
    (fragment_objects (bytes_shown l.bytes) l.shown.loaded.context l.shown.loaded.connection.0 (map found_seen l.shown.found.now) l.order)
    (fragment_objects (bytes_shown l.bytes) l.shown.loaded.context l.shown.loaded.connection.0 (map found_seen l.shown.found.now) (drop l.place-index l.order))
