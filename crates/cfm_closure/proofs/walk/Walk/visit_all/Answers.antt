-- The walk from the root leads to the closure order.
use Rattle.std.proofs.Common.{Ok, ap, ◌∙◌}
use Rattle.std.proofs.lemmas.Result.{err_from_is_err_and}
use Rattle.pef_words.specs.Results.{◌>>=◌}
use Rattle.cfm_closure.proofs.PathLemmas.{Fails-also, order_of-start}
use Rattle.cfm_closure.proofs.walk.Walk.visit_all.Goals as goal

pub returns-in_err-enter-clause-answer : goal.returns-in_err-enter-clause-answer
returns-in_err-enter-clause-answer c =
    let start = order_of-start c.args.store.now c.args.root _ _ c.requires.path c.requires.state in
    let p = err_from_is_err_and c.from_residual.result c.from_residual.ensures.1 in
    rw (p.1, p.2) (Fails-also c.in_err-enter.field-0.0 _ _ (λ r refused. start ∙ ap (λ r. r >>= (λ s. Ok s.order)) refused) c.in_err-enter.ensures.continues)

pub returns-in_err-run-clause-answer : goal.returns-in_err-run-clause-answer
returns-in_err-run-clause-answer c =
    let start = order_of-start c.args.store.now c.args.root _ _ c.requires.path c.requires.state in
    let p = err_from_is_err_and c.from_residual-in_err-run.result c.from_residual-in_err-run.ensures.1 in
    rw (p.1, p.2) (Fails-also c.in_err-run.field-0.0 _ _ (λ r refused. start ∙ ap (λ r. r >>= (λ s. Ok s.order)) (c.in_ok-enter.ensures.continues ∙ refused)) c.in_err-run.ensures.answer)

pub returns-clause-answer : goal.returns-clause-answer
returns-clause-answer c =
    let start = order_of-start c.args.store.now c.args.root _ _ c.requires.path c.requires.state in
    start ∙ ap (λ r. r >>= (λ s. Ok s.order)) (c.in_ok-enter.ensures.continues ∙ c.in_ok-run.ensures.answer)
