use Rattle.std.proofs.Common.{◌∙◌, arith}
use Rattle.pef_plan.proofs.WindowsProofs.CloseLemmas.{raised-same}
use Rattle.pef_plan.proofs.windows.close.fill_steps.Goals as goal

pub returns-clause-are : goal.returns-clause-are
returns-clause-are c =
    let i = c.places.invariant in
    let len = i.len in
    let wide = c.requires.len in
    let past = c.places-test.false in
    raised-same c.args.low c.places.steps c.args.row.now (len ∙ wide)
    (λ j under.
    let is = i.done j (omega (arith, under, past, wide)) in
    let low = c.requires.low j under in
    omega (arith, is, low))
