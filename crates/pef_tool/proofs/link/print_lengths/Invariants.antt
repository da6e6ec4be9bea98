use Rattle.std.proofs.Common.{drop}
use Rattle.pef_ports.proofs.Laws.Sending.{IsSentUpTo}
use Rattle.pef_tool.specs.Link.{lengths_text}
use Rattle.pef_tool.proofs.link.print_lengths.Given as goal

abbrev pub invariant-loop-k : goal.invariant-loop-k
invariant-loop-k g l = IsSentUpTo (g.W.Sink.stream l.fn.out) (g.W.Sink.stream l.out) l.fn.page.items l.page.items (lengths_text 0 l.linked.lengths) (lengths_text l.k (drop l.k l.linked.lengths))
