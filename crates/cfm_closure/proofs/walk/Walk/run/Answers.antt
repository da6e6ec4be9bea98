-- The last frame of the path comes first.
use Rattle.std.proofs.Common.{◌∙◌, ap}
use Rattle.std.proofs.lemmas.Result.{err_from_is_err_and}
use Rattle.cfm_closure.specs.Kept.Paths.{rest_of_path, state_of}
use Rattle.cfm_closure.proofs.PathLemmas.{Fails-also, rest_of_path-push}
use Rattle.cfm_closure.proofs.walk.Walk.run.Goals as goal

pub loop-frame-preserved : goal.loop-frame-preserved
loop-frame-preserved c =
    let s = state_of c.loop-frame.self in
    record {
      walk = c.in_ok-step.ensures.walk;
      rest = c.loop-frame.invariant.rest
          ∙ ap (λ path. rest_of_path c.args.store.now path s) c.in-Some.ensures.items
          ∙ rest_of_path-push c.args.store.now c.pop.new.self.items c.in-Some.frame s
          ∙ c.in_ok-step.ensures.continues;
    }

pub returns-in_err-step-clause-answer : goal.returns-in_err-step-clause-answer
returns-in_err-step-clause-answer c =
    let s = state_of c.loop-frame.self in
    let before = c.loop-frame.invariant.rest
    ∙ ap (λ path. rest_of_path c.args.store.now path s) c.in-Some.ensures.items
    ∙ rest_of_path-push c.args.store.now c.pop.new.self.items c.in-Some.frame s in
    let p = err_from_is_err_and c.from_residual.result c.from_residual.ensures.1 in
    rw (p.1, p.2) (Fails-also c.in_err-step.field-0.0 _ _ (λ r refused. before ∙ refused) c.in_err-step.ensures.continues)
