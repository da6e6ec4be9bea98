-- A fragment goes onto the path, or is refused.
use Rattle.std.proofs.Common.{◌∙◌, length, refl, sym, ap}
use Rattle.std.proofs.lemmas.Result.{err_from_is_err_and}
use Rattle.cfm_closure.specs.declared.search.Visit.{Visit}
use Rattle.cfm_closure.specs.Kept.Searches.{rest_of_visits, sought_of}
use Rattle.cfm_closure.specs.Missing.{visiting}
use Rattle.cfm_closure.specs.Views.{fragment_seen}
use Rattle.cfm_closure.proofs.PathLemmas.{Fails-also}
use Rattle.cfm_closure.proofs.SearchLemmas.{enter-refused, enter-unmet}
use Rattle.cfm_closure.proofs.search.Search.enter.Goals as goal

pub returns-in_err-fragment-clause-leads : goal.returns-in_err-fragment-clause-leads
returns-in_err-fragment-clause-leads c =
    let s = sought_of c.args.self.now in
    let p = err_from_is_err_and c.from_residual.result c.from_residual.ensures.1 in
    rw (p.1, p.2)
    (Fails-also c.in_err-fragment.field-0.0 _ _
    (λ r refused. enter-refused c.args.store.now c.args.self.now.path.items s c.args.p c.requires.unmet c.requires.search.room r refused)
    c.in_err-fragment.ensures.answer)

pub returns-clause-leads : goal.returns-clause-leads
returns-clause-leads c =
    let s = sought_of c.args.self.now in
    let visit : Visit = record { p = c.args.p; loader = c.in_ok-fragment.fragment.loader; next = 0 } in
    enter-unmet c.args.store.now c.args.self.now.path.items s c.args.p c.requires.unmet c.requires.search.room visit (fragment_seen c.in_ok-fragment.fragment) refl refl refl c.in_ok-fragment.ensures.answer
    ∙ ap (λ path. rest_of_visits (length c.args.store.now) c.args.store.now path (visiting c.args.p s)) (sym c.in_ok-push.ensures.items)
