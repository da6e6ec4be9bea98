use Rattle.std.proofs.Common.{◌<◌, sym, ◌∙◌, arith}
use Rattle.std.proofs.lemmas.Result.{err_from_is_err_and}
use Rattle.pef_reloc.proofs.Rows.{pairs-done, pairs-next, pairs-fault, pairs-fault_second}
use Rattle.pef_reloc.proofs.words.add_pairs.Goals as goal

pub returns-in_err-add_word : goal.returns-in_err-add_word
returns-in_err-add_word c =
    λ a b b' first second. let p = err_from_is_err_and c.from_residual.result c.from_residual.ensures.1 in
    let under : c.words.counter < c.args.row.count = omega arith in
    rw (p.1, p.2) (record { is = sym (c.words.invariant.left a b b' first second) ∙ pairs-fault a b b' _ _ _ _ _ _ _ _ under first c.in_err-add_word.ensures })

pub returns-in_err-add_word-2 : goal.returns-in_err-add_word-2
returns-in_err-add_word-2 c =
    λ a b b' first second. let p = err_from_is_err_and c.from_residual-in_err-add_word-2.result c.from_residual-in_err-add_word-2.ensures.1 in
    let under : c.words.counter < c.args.row.count = omega arith in
    rw (p.1, p.2) (record { is = sym (c.words.invariant.left a b b' first second) ∙ pairs-fault_second a b b' _ _ _ _ _ _ _ _ _ _ under first second c.in_ok-add_word.ensures c.in_err-add_word-2.ensures })

pub words-preserved : goal.words-preserved
words-preserved c =
    let under : c.words.counter < c.args.row.count = omega arith in
    record {
      at_is = omega arith;
      left = λ a b b' first second. sym (pairs-next a b b' _ _ _ _ _ _ _ _ _ under first second c.in_ok-add_word.ensures c.in_ok-add_word-2.ensures) ∙ c.words.invariant.left a b b' first second;
    }

pub returns : goal.returns
returns c =
    λ a b b' first second. record { is = sym (c.words.invariant.left a b b' first second) ∙ pairs-done a b b' _ _ _ _ _ (omega arith) }
