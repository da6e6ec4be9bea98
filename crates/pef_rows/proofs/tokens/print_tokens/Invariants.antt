use Rattle.std.proofs.Common.{drop}
use Rattle.pef_rows.specs.Tokens.{tokens_text}
use Rattle.pef_ports.proofs.Laws.Sending.{IsSentUpTo}
use Rattle.pef_rows.proofs.tokens.print_tokens.Given as goal

abbrev pub invariant-loop-token : goal.invariant-loop-token
invariant-loop-token g l = IsSentUpTo (g.W.Sink.stream l.fn.out) (g.W.Sink.stream l.out) l.fn.page.items l.page.items (tokens_text l.tokens) (tokens_text (drop l.token-index l.tokens))
