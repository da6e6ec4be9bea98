use Rattle.std.proofs.Common.{◌<◌, sym, ◌∙◌, arith}
use Rattle.std.proofs.lemmas.Result.{err_from_is_err_and}
use Rattle.pef_reloc.proofs.Verifications.{row-goes, row-past, row-stops}
use Rattle.pef_reloc.proofs.verifying.Sizes.each_word.Goals as goal

pub returns-in_err-word : goal.returns-in_err-word
returns-in_err-word c =
    λ k. let p = err_from_is_err_and c.from_residual.result c.from_residual.ensures.1 in
    let under : c.words.counter < c.args.places.count = omega arith in
    rw (p.1, p.2) (sym (c.words.invariant.left k) ∙ row-stops _ _ _ _ _ k _ under (c.in_err-word.ensures k))

pub words-preserved : goal.words-preserved
words-preserved c =
    let under : c.words.counter < c.args.places.count = omega arith in
    record {
      at_is = omega arith;
      left = λ k. sym (row-goes _ _ _ _ _ k under (c.in_ok-word.ensures k)) ∙ c.words.invariant.left k;
    }

pub returns : goal.returns
returns c = λ k. sym (c.words.invariant.left k) ∙ row-past _ _ _ _ _ k (omega arith)
