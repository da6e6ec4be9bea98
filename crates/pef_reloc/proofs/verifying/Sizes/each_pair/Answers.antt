use Rattle.std.proofs.Common.{◌<◌, sym, ◌∙◌, arith}
use Rattle.std.proofs.lemmas.Result.{err_from_is_err_and}
use Rattle.pef_reloc.proofs.Verifications.{pairs-goes, pairs-past, pairs-stops, pairs-stops_second}
use Rattle.pef_reloc.proofs.verifying.Sizes.each_pair.Goals as goal

pub returns-in_err-word : goal.returns-in_err-word
returns-in_err-word c =
    λ k j. let p = err_from_is_err_and c.from_residual.result c.from_residual.ensures.1 in
    let under : c.words.counter < c.args.places.count = omega arith in
    rw (p.1, p.2) (sym (c.words.invariant.left k j) ∙ pairs-stops _ _ _ _ _ k j _ under (c.in_err-word.ensures k))

pub returns-in_err-word-2 : goal.returns-in_err-word-2
returns-in_err-word-2 c =
    λ k j. let p = err_from_is_err_and c.from_residual-in_err-word-2.result c.from_residual-in_err-word-2.ensures.1 in
    let under : c.words.counter < c.args.places.count = omega arith in
    rw (p.1, p.2) (sym (c.words.invariant.left k j) ∙ pairs-stops_second _ _ _ _ _ k j _ under (c.in_ok-word.ensures k) (c.in_err-word-2.ensures j))

pub words-preserved : goal.words-preserved
words-preserved c =
    let under : c.words.counter < c.args.places.count = omega arith in
    record {
      at_is = omega arith;
      left = λ k j. sym (pairs-goes _ _ _ _ _ k j under (c.in_ok-word.ensures k) (c.in_ok-word-2.ensures j)) ∙ c.words.invariant.left k j;
    }

pub returns : goal.returns
returns c = λ k j. sym (c.words.invariant.left k j) ∙ pairs-past _ _ _ _ _ k j (omega arith)
