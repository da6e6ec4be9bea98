-- If the search finds no such byte there is no cut. Otherwise the cut is at the first one.
use Rattle.std.proofs.Common.{sym, eq-eqb, arith}
use Rattle.std.proofs.lemmas.Bool.{eqb-true}
use Rattle.pef_lines.proofs.Cuts.{cut_at-none, cut_at-some}
use Rattle.pef_lines.proofs.words.cut_at.Goals as goal

pub returns-in_err-at : goal.returns-in_err-at
returns-in_err-at c =
    rw (c.from_residual.ensures) (sym (cut_at-none c.args.byte c.args.bytes.now (λ k under is. c.in_err-at.ensures k (omega arith) under (eq-eqb _ _ is))))

pub returns : goal.returns
returns c =
    let found = c.in_ok-at.ensures in
    rw (c.split_at.ensures.front, c.split_at-2.ensures.back, c.split_at.ensures.back) (sym (cut_at-some c.args.byte c.args.bytes.now c.in_ok-at.at found.0.high (λ j below is. found.0.before j (omega arith) below (eq-eqb _ _ is)) (eqb-true _ _ found.1)))
