use Rattle.std.proofs.Common.{◌+◌, ◌∙◌, ℕ, ap, arith, length, subst, slice_index}
use Rattle.pef_plan.specs.Runs.Tables.{number_in}
use Rattle.pef_plan.specs.Windows.Windows.{BestOf}
use Rattle.pef_plan.proofs.runs.ends.RunEnds.fill_skips.Goals as goal

pub returns-clause-best : goal.returns-clause-best
returns-clause-best c = λ x under width limit rows w.
    let a = c.args in
    let r = length a.known.registers.now + 1 in
    let past = c.classes-test.false in
    let len = c.classes.invariant.len in
    let wide = c.requires.len in
    let number = c.classes.invariant.are x (omega (arith, under, past, len, wide)) ∙ ap (λ near. 1 + number_in r near x a.class) c.as_slice-near.ensures.value in
    subst (λ (n : ℕ). BestOf n rows x (slice_index c.lower.new.line x)) number (c.lower.ensures.best width limit rows x w (omega (arith, under, len, wide)))
