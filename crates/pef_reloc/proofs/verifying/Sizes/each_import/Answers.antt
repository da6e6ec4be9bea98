use Rattle.std.proofs.Common.{◌<◌, sym, ◌∙◌, arith}
use Rattle.std.proofs.lemmas.Result.{err_from_is_err_and}
use Rattle.pef_reloc.proofs.Verifications.{numbered-goes, numbered-past, numbered-stops}
use Rattle.pef_reloc.proofs.verifying.Sizes.each_import.Goals as goal

pub returns-in_err-import : goal.returns-in_err-import
returns-in_err-import c =
    let p = err_from_is_err_and c.from_residual.result c.from_residual.ensures.1 in
    let under : c.words.counter < c.args.count = omega arith in
    rw (p.1, p.2) (sym c.words.invariant.left ∙ numbered-stops _ _ _ _ _ _ under c.in_err-import.ensures)

pub words-preserved : goal.words-preserved
words-preserved c =
    let under : c.words.counter < c.args.count = omega arith in
    record {
      at_is = omega arith;
      import_is = omega arith;
      left = sym (numbered-goes _ _ _ _ _ under c.in_ok-import.ensures) ∙ c.words.invariant.left;
    }

pub returns : goal.returns
returns c = sym c.words.invariant.left ∙ numbered-past _ _ _ _ _ (omega arith)
