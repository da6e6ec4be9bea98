use Rattle.std.proofs.Common.{drop}
use Rattle.pef_ports.proofs.Laws.Sending.{IsSentUpTo}
use Rattle.pef_tool.specs.Check.{verdicts_text}
use Rattle.pef_tool.proofs.check.print_verdicts.Given as goal

abbrev pub invariant-loop-k : goal.invariant-loop-k
invariant-loop-k g l = IsSentUpTo (g.W.Sink.stream l.fn.out) (g.W.Sink.stream l.out) l.fn.page.items l.page.items (verdicts_text 0 l.verdicts) (verdicts_text l.k (drop l.k l.verdicts))
