-- If the search finds no zero byte there is no name. Otherwise the name ends at the first one.
use Rattle.std.proofs.Common.{sym, eq-eqb, arith}
use Rattle.std.proofs.lemmas.Bool.{eqb-true}
use Rattle.pef_words.proofs.Laws.Names.{before_zero-none, before_zero-some}
use Rattle.pef_words.proofs.cut.zero_ended.Goals as goal

pub returns-in_err-end : goal.returns-in_err-end
returns-in_err-end c =
    rw (c.from_residual.ensures) (sym (before_zero-none c.args.bytes.now (λ k under is. c.in_err-end.ensures k (omega arith) under (eq-eqb _ 0 is))))

pub returns : goal.returns
returns c =
    let found = c.in_ok-end.ensures in
    rw (c.split_at.ensures.front) (sym (before_zero-some c.args.bytes.now c.in_ok-end.end found.0.high (λ j below is. found.0.before j (omega arith) below (eq-eqb _ 0 is)) (eqb-true _ 0 found.1)))
