use Rattle.std.proofs.Common.{drop}
use Rattle.pef_rows.specs.Tokens.{path_text}
use Rattle.pef_ports.proofs.Laws.Sending.{IsSentUpTo}
use Rattle.pef_rows.proofs.tokens.print_path.Given as goal

abbrev pub invariant-loop-b : goal.invariant-loop-b
invariant-loop-b g l = IsSentUpTo (g.W.Sink.stream l.fn.out) (g.W.Sink.stream l.out) l.fn.page.items l.page.items (path_text l.path) (path_text (drop l.b-index l.path))
