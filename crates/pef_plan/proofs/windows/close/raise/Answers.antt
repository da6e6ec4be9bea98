use Rattle.std.proofs.Common.{◌+◌, ◌∙◌, ap, arith, length, sym, take}
use Rattle.std.proofs.lemmas.List.{get_or-take, length-take-le}
use Rattle.pef_plan.proofs.WindowsProofs.CloseLemmas.{raised-same}
use Rattle.pef_plan.proofs.windows.close.raise.Goals as goal

pub returns : goal.returns
returns c =
    let a = c.args in
    let i = c.places.invariant in
    let len = i.len in
    let past = c.places-test.false in
    sym (raised-same a.low (take (length a.row.now) a.steps.now) c.places.row (length-take-le (length a.row.now) a.steps.now c.requires.len ∙ sym len)
    (λ j under.
    ap (λ n. a.low + n) (get_or-take (length a.row.now) a.steps.now j 0 (omega (arith, under, len)))
    ∙ sym (i.done j (omega (arith, under, past, len)))))
