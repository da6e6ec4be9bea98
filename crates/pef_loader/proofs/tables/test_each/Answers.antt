-- A place without a refusal is passed over, and the first one with a refusal ends the search.
use Rattle.std.proofs.Common.{◌<◌, ◌≤◌, Ok, Err, sym, ◌∙◌, arith}
use Rattle.std.proofs.lemmas.Result.{err_from_is_err_and}
use Rattle.pef_words.proofs.Laws.Refusals.{first_among-end, first_among-here, first_among-next}
use Rattle.pef_loader.proofs.tables.test_each.Goals as goal

pub loop-i-preserved : goal.loop-i-preserved
loop-i-preserved g c = λ refusal tells.
    let under : c.loop-i.i < c.args.count = omega arith in
    sym (first_among-next refusal c.loop-i.i c.args.count under (sym (tells c.loop-i.i (Ok tt) under c.in_ok-test.ensures))) ∙ c.loop-i.invariant refusal tells

pub returns-in_err-test : goal.returns-in_err-test
returns-in_err-test g c = λ refusal tells.
    let under : c.loop-i.i < c.args.count = omega arith in
    let p = err_from_is_err_and c.from_residual.result c.from_residual.ensures.1 in
    rw (p.1, p.2) (sym (first_among-here refusal c.loop-i.i c.args.count _ under (sym (tells c.loop-i.i (Err c.in_err-test.field-0.0) under c.in_err-test.ensures))) ∙ c.loop-i.invariant refusal tells)

pub returns : goal.returns
returns g c = λ refusal tells.
    let past : c.args.count ≤ c.loop-i.i = omega arith in
    sym (first_among-end refusal c.loop-i.i c.args.count past) ∙ c.loop-i.invariant refusal tells
