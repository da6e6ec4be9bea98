use Rattle.std.proofs.Common.{◌∙◌, ap, length, sym}
use Rattle.pef_plan.proofs.RunsProofs.KnownLemmas.{value-ahead, value-end, value-label}
use Rattle.pef_plan.proofs.runs.suffix.SolvedSuffix.value.Goals as goal

pub returns-then-begin_at-clause-is : goal.returns-then-begin_at-clause-is
returns-then-begin_at-clause-is c = λ l agrees.
    let a = c.args in
    c.from.ensures ∙ value-label l a.self a.rest.now a.position a.c a.d c.label-label.result (sym c.begin_at.ensures ∙ c.if-begin_at.true) agrees c.label-label.ensures.is c.requires.c c.requires.d

pub returns-in-Some-clause-is : goal.returns-in-Some-clause-is
returns-in-Some-clause-is c = λ l agrees.
    let a = c.args in
    c.value.ensures.is
    ∙ value-ahead l a.self a.rest.now a.position a.c a.d c.label-label.result c.in-Some.ahead c.in-Some.ensures c.label-label.ensures.is (sym c.begin_at.ensures ∙ c.if-begin_at.false) agrees c.requires.c c.requires.d

pub returns-in-None-clause-is : goal.returns-in-None-clause-is
returns-in-None-clause-is c = λ l agrees. value-end l c.args.rest.now c.args.position c.args.c c.args.d (ap length c.in-None.ensures)
