-- The last visit of the path comes first.
use Rattle.std.proofs.Common.{◌∙◌}
use Rattle.std.proofs.lemmas.Result.{err_from_is_err_and}
use Rattle.cfm_closure.specs.Kept.Searches.{sought_of, unvisited}
use Rattle.cfm_closure.proofs.PathLemmas.{Fails-also}
use Rattle.cfm_closure.proofs.SearchLemmas.{visits-last}
use Rattle.cfm_closure.proofs.search.Search.run.Goals as goal

pub loop-visit-preserved : goal.loop-visit-preserved
loop-visit-preserved c =
    let now = c.loop-visit.self in
    record {
      search = c.in_ok-step.ensures.search;
      rest = c.loop-visit.invariant.rest
          ∙ visits-last c.args.store.now c.pop.new.self.items c.in-Some.visit now.path.items (unvisited now.marked.items) (sought_of now) c.in-Some.ensures.items c.loop-visit.invariant.search.room
          ∙ c.in_ok-step.ensures.leads;
    }

pub returns-in_err-step-clause-leads : goal.returns-in_err-step-clause-leads
returns-in_err-step-clause-leads c =
    let now = c.loop-visit.self in
    let before = c.loop-visit.invariant.rest
    ∙ visits-last c.args.store.now c.pop.new.self.items c.in-Some.visit now.path.items (unvisited now.marked.items) (sought_of now) c.in-Some.ensures.items c.loop-visit.invariant.search.room in
    let p = err_from_is_err_and c.from_residual.result c.from_residual.ensures.1 in
    rw (p.1, p.2) (Fails-also c.in_err-step.field-0.0 _ _ (λ r refused. before ∙ refused) c.in_err-step.ensures.leads)
