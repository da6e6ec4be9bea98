-- The walk begins with the root.
use Rattle.std.proofs.Common.{◌∙◌, Ok, ap}
use Rattle.std.proofs.lemmas.Result.{err_from_is_err_and}
use Rattle.pef_words.specs.Results.{◌>>=◌}
use Rattle.cfm_closure.specs.Kept.Searches.{sought_of}
use Rattle.cfm_closure.specs.Missing.{Sought}
use Rattle.cfm_closure.proofs.PathLemmas.{Fails-also}
use Rattle.cfm_closure.proofs.SearchLemmas.{Leads-answers, missing_of-start}
use Rattle.cfm_closure.proofs.search.Search.visit_all.Goals as goal

pub returns-in_err-enter-clause-answer : goal.returns-in_err-enter-clause-answer
returns-in_err-enter-clause-answer c =
    let start = missing_of-start c.args.store.now c.args.root c.args.self.now.path.items (sought_of c.args.self.now) c.requires.path c.requires.sought in
    let p = err_from_is_err_and c.from_residual.result c.from_residual.ensures.1 in
    rw (p.1, p.2) (Fails-also c.in_err-enter.field-0.0 _ _ (λ r refused. start ∙ ap (λ t. t >>= (λ (s : Sought). Ok s.missing)) refused) c.in_err-enter.ensures.leads)

pub returns-clause-answer : goal.returns-clause-answer
returns-clause-answer c =
    let start = missing_of-start c.args.store.now c.args.root c.args.self.now.path.items (sought_of c.args.self.now) c.requires.path c.requires.sought in
    Leads-answers c.run.result _ _ _ c.run.ensures.leads (start ∙ ap (λ t. t >>= (λ (s : Sought). Ok s.missing)) c.in_ok-enter.ensures.leads)
