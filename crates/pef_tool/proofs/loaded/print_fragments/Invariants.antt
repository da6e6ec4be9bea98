use Rattle.std.proofs.Common.{drop}
use Rattle.pef_ports.proofs.Laws.Sending.{IsSentUpTo}
use Rattle.pef_tool.specs.Loaded.{fragments_text}
use Rattle.pef_tool.proofs.loaded.print_fragments.Given as goal

abbrev pub invariant-loop-position : goal.invariant-loop-position
invariant-loop-position g l = IsSentUpTo (g.W.Sink.stream l.fn.out) (g.W.Sink.stream l.out) l.fn.page.items l.page.items
    (fragments_text l.context l.order) (fragments_text l.context (drop l.position-index l.order))
