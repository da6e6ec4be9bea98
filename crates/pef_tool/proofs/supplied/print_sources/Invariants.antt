-- Those so far were sent.
use Rattle.std.proofs.Common.{drop, map}
use Rattle.pef_ports.proofs.Laws.Sending.{IsSentUpTo}
use Rattle.pef_gather.specs.Seen.{found_seen}
use Rattle.pef_tool.specs.Supplied.{sources_text}
use Rattle.pef_tool.proofs.supplied.print_sources.Given as goal

abbrev pub invariant-loop-place : goal.invariant-loop-place
invariant-loop-place g l = IsSentUpTo (g.W.Sink.stream l.fn.out) (g.W.Sink.stream l.out) l.fn.page.items l.page.items
    (sources_text (map found_seen l.found) l.order) (sources_text (map found_seen l.found) (drop l.place-index l.order))
