use Rattle.std.proofs.Common.{◌∙◌, ap, arith, length, slice_index}
use Rattle.pef_plan.proofs.RunsProofs.KnownLemmas.{value-ahead, value-end}
use Rattle.pef_plan.proofs.RunsProofs.PlaceLemmas.{zeros_at}
use Rattle.pef_plan.proofs.runs.suffix.SolvedSuffix.move_column.Goals as goal

pub move_in_class-requires-clause-small : goal.move_in_class-requires-clause-small
move_in_class-requires-clause-small c = λ x under.
    let a = c.args in
    let len = c.requires.len in
    let is = c.requires.labels x (omega (arith, under, len)) in
    let count = c.requires.shaped.count in
    let low = c.requires.shaped.label_small (length a.rest.now) x a.class (omega arith) (omega (arith, under, len)) c.requires.class in
    omega (arith, is, low, count)

pub returns-in-Some-clause-are : goal.returns-in-Some-clause-are
returns-in-Some-clause-are c = λ x under l agrees.
    let a = c.args in
    let len = c.requires.len in
    c.move_in_class.ensures.are x (omega (arith, under, len))
    ∙ value-ahead l a.self a.rest.now a.position x a.class (slice_index a.values.now x) c.in-Some.ahead c.in-Some.ensures (c.requires.labels x under) c.requires.away agrees under c.requires.class

pub returns-in-None-clause-are : goal.returns-in-None-clause-are
returns-in-None-clause-are c = λ x under l agrees.
    let a = c.args in
    zeros_at (length a.values.now) x c.fill.new.self (c.fill.ensures.after (λ v is. is)) ∙ value-end l a.rest.now a.position x a.class (ap length c.in-None.ensures)
