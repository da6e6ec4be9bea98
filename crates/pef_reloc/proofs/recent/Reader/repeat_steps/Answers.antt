use Rattle.std.proofs.Common.{sym}
use Rattle.std.proofs.lemmas.Result.{err_from_is_err_and}
use Rattle.pef_reloc.proofs.Windows.{block-there, reaches, steps-cut, steps-far, steps-fine, steps-nested}
use Rattle.pef_reloc.proofs.recent.Reader.repeat_steps.Goals as goal

pub returns-then-reach-at-clause-value : goal.returns-then-reach-at-clause-value
returns-then-reach-at-clause-value c =
    λ before stands marks. sym (steps-far _ before c.args.repeat _ _ stands c.if-reach-at.true)

pub returns-then-not-self-from-clause-value : goal.returns-then-not-self-from-clause-value
returns-then-not-self-from-clause-value c =
    λ before stands marks. sym (steps-cut before c.args.repeat _ _ (reaches _ _ before c.args.repeat _ _ stands marks c.requires.some c.requires.blocks c.if-reach-at.false c.if-not-self-from.true))

pub returns-in_err-count-clause-value : goal.returns-in_err-count-clause-value
returns-in_err-count-clause-value c =
    let p = err_from_is_err_and c.from_residual.result c.from_residual.ensures.1 in
    λ before stands marks.
    let found = block-there _ before c.args.repeat _ stands (reaches _ _ before c.args.repeat _ _ stands marks c.requires.some c.requires.blocks c.if-reach-at.false c.if-not-self-from.false) in
    rw (p.1, p.2) (sym (steps-nested _ before c.args.repeat _ _ _ found (sym (c.in_err-count.ensures.value found.block found.spans))))

pub returns-clause-value : goal.returns-clause-value
returns-clause-value c =
    λ before stands marks.
    let found = block-there _ before c.args.repeat _ stands (reaches _ _ before c.args.repeat _ _ stands marks c.requires.some c.requires.blocks c.if-reach-at.false c.if-not-self-from.false) in
    sym (steps-fine _ before c.args.repeat _ _ found (sym (c.in_ok-count.ensures.value found.block found.spans)))
