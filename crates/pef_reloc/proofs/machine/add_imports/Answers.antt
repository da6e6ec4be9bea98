use Rattle.std.proofs.Common.{◌<◌, sym, ◌∙◌, arith}
use Rattle.std.proofs.lemmas.Result.{err_from_is_err_and}
use Rattle.pef_reloc.proofs.Acts.{import_stands}
use Rattle.pef_reloc.proofs.Rows.{numbered-done, numbered-next, numbered-fault, numbered-missing}
use Rattle.pef_reloc.proofs.machine.add_imports.Goals as goal

pub returns-in_err-address : goal.returns-in_err-address
returns-in_err-address c =
    let p = err_from_is_err_and c.from_residual.result c.from_residual.ensures.1 in
    let under : c.words.counter < c.args.count = omega arith in
    rw (p.1, p.2, c.in_err-address.ensures.1) (record { is = sym c.words.invariant.left ∙ numbered-missing _ _ _ _ _ _ under c.in_err-address.ensures.0 })

pub returns-in_err-add_word : goal.returns-in_err-add_word
returns-in_err-add_word c =
    let p = err_from_is_err_and c.from_residual-in_err-add_word.result c.from_residual-in_err-add_word.ensures.1 in
    let under : c.words.counter < c.args.count = omega arith in
    let stands = import_stands _ _ _ c.in_ok-address.ensures.0 c.in_ok-address.ensures.1 in
    rw (p.1, p.2) (record { is = sym c.words.invariant.left ∙ numbered-fault _ _ _ _ _ _ _ _ _ under stands c.in_err-add_word.ensures })

pub words-preserved : goal.words-preserved
words-preserved c =
    let under : c.words.counter < c.args.count = omega arith in
    let stands = import_stands _ _ _ c.in_ok-address.ensures.0 c.in_ok-address.ensures.1 in
    record {
      at_is = omega arith;
      import_is = omega arith;
      left = sym (numbered-next _ _ _ _ _ _ _ _ under stands c.in_ok-add_word.ensures) ∙ c.words.invariant.left;
    }

pub returns : goal.returns
returns c = record { is = sym c.words.invariant.left ∙ numbered-done _ _ _ _ _ _ (omega arith) }
