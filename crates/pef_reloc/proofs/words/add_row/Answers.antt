use Rattle.std.proofs.Common.{◌<◌, sym, ◌∙◌, arith}
use Rattle.std.proofs.lemmas.Result.{err_from_is_err_and}
use Rattle.pef_reloc.proofs.Rows.{row-done, row-next, row-fault}
use Rattle.pef_reloc.proofs.words.add_row.Goals as goal

pub returns-in_err-add_word : goal.returns-in_err-add_word
returns-in_err-add_word c =
    λ a b stands. let p = err_from_is_err_and c.from_residual.result c.from_residual.ensures.1 in
    let under : c.words.counter < c.args.row.count = omega arith in
    rw (p.1, p.2) (record { is = sym (c.words.invariant.left a b stands) ∙ row-fault a b _ _ _ _ _ _ _ _ under stands c.in_err-add_word.ensures })

pub words-preserved : goal.words-preserved
words-preserved c =
    let under : c.words.counter < c.args.row.count = omega arith in
    record {
      at_is = omega arith;
      left = λ a b stands. sym (row-next a b _ _ _ _ _ _ _ under stands c.in_ok-add_word.ensures) ∙ c.words.invariant.left a b stands;
    }

pub returns : goal.returns
returns c =
    λ a b stands. record { is = sym (c.words.invariant.left a b stands) ∙ row-done a b _ _ _ _ _ (omega arith) }
