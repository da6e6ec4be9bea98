-- Each token sends its text.
use Rattle.std.proofs.Common.{◌+◌, drop, get_or, ap, ◌∙◌}
use Rattle.std.proofs.lemmas.List.{at_drop_more, drop_all}
use Rattle.pef_rows.specs.Tokens.{tokens_text}
use Rattle.pef_rows.specs.declared.tokens.Token.TheVariants.{Number}
use Rattle.pef_rows.proofs.TokenLemmas.{tokens-more}
use Rattle.pef_ports.proofs.Laws.Sending.{Sends-short, sent-all, sent-nothing, sent-piece, sent-short}
use Rattle.pef_rows.proofs.tokens.print_tokens.Goals as goal

pub loop-token-init : goal.loop-token-init
loop-token-init g c = sent-nothing (g.W.Sink.stream c.args.out.now) c.args.page.now.items (tokens_text c.args.tokens.now)

pub loop-token-preserved : goal.loop-token-preserved
loop-token-preserved g c =
    let at = c.loop-token in
    let tokens = c.args.tokens.now in
    let next = at_drop_more tokens_text tokens at.token-index (Number 0) c.loop-token-test.true ∙ tokens-more (get_or tokens at.token-index (Number 0)) (drop (at.token-index + 1) tokens) in
    sent-piece _ at.invariant next c.in_ok-print_token.ensures

pub returns-in_err-print_token : goal.returns-in_err-print_token
returns-in_err-print_token g c =
    let at = c.loop-token in
    let tokens = c.args.tokens.now in
    let next = at_drop_more tokens_text tokens at.token-index (Number 0) c.loop-token-test.true ∙ tokens-more (get_or tokens at.token-index (Number 0)) (drop (at.token-index + 1) tokens) in
    Sends-short _ c.from_residual.result _ c.from_residual.ensures.1 (sent-short _ at.invariant next c.in_err-print_token.ensures)

pub returns : goal.returns
returns g c = sent-all c.loop-token.invariant (ap tokens_text (drop_all c.loop-token.token-index c.args.tokens.now c.loop-token-test.false))
