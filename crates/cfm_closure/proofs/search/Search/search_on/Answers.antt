-- The next library entry is refused, leads to a fragment that wasn't visited, or is passed by.
use Rattle.std.proofs.Common.{◌+◌, ◌∙◌, refl, ap}
use Rattle.std.proofs.lemmas.Result.{err_from_is_err_and}
use Rattle.pef_loader.specs.Views.{library_seen, loaded}
use Rattle.pef_words.specs.Results.{◌>>=◌}
use Rattle.cfm_closure.specs.Kept.Searches.{rest_of_visit, search_next, sought_of}
use Rattle.cfm_closure.proofs.PathLemmas.{Fails-also}
use Rattle.cfm_closure.proofs.SearchLemmas.{past-end, visit-done, visit-entry}
use Rattle.cfm_closure.proofs.search.Search.search_on.Goals as goal

pub returns-in_err-q-clause-leads : goal.returns-in_err-q-clause-leads
returns-in_err-q-clause-leads c = λ n.
    let v = c.loop-library.visit in
    let s = sought_of c.loop-library.self in
    let rest = rest_of_visit n c.args.store.now (record v { next = v.next + 1 }) in
    let before = c.loop-library.invariant.rest n ∙ visit-entry c.args.store.now n v s (library_seen c.in-Some.library) (c.in-Some.ensures.there.0 refl) c.in-Some.ensures.value in
    let p = err_from_is_err_and c.from_residual.result c.from_residual.ensures.1 in
    rw (p.1, p.2) (Fails-also c.in_err-q.field-0.0 _ _ (λ r refused. before ∙ ap (λ t. t >>= rest) refused) (c.in_err-q.ensures.leads n))

pub returns-in-Some-2-clause-leads : goal.returns-in-Some-2-clause-leads
returns-in-Some-2-clause-leads c = λ n.
    let v = c.loop-library.visit in
    let s = sought_of c.loop-library.self in
    let rest = rest_of_visit n c.args.store.now (record v { next = v.next + 1 }) in
    c.loop-library.invariant.rest n
    ∙ visit-entry c.args.store.now n v s (library_seen c.in-Some.library) (c.in-Some.ensures.there.0 refl) c.in-Some.ensures.value
    ∙ ap (λ t. t >>= rest) (c.in_ok-q.ensures.leads n ∙ ap (λ next. search_next n c.args.store.now next (sought_of c.follow.new.self)) c.in-Some-2.is)

pub loop-library-preserved : goal.loop-library-preserved
loop-library-preserved c =
    let v = c.loop-library.visit in
    let s = sought_of c.loop-library.self in
    record {
      tables = c.in_ok-q.ensures.tables;
      marked = c.in_ok-q.ensures.marked ∙ c.loop-library.invariant.marked;
      path = c.in_ok-q.ensures.path ∙ c.loop-library.invariant.path;
      rest = λ n.
          c.loop-library.invariant.rest n
          ∙ visit-entry c.args.store.now n v s (library_seen c.in-Some.library) (c.in-Some.ensures.there.0 refl) c.in-Some.ensures.value
          ∙ ap (λ t. t >>= rest_of_visit n c.args.store.now (record v { next = v.next + 1 })) (c.in_ok-q.ensures.leads n ∙ ap (λ next. search_next n c.args.store.now next (sought_of c.follow.new.self)) c.in_default-2.is);
    }

pub returns-clause-leads : goal.returns-clause-leads
returns-clause-leads c = λ n.
    let v = c.loop-library.visit in
    c.loop-library.invariant.rest n
    ∙ visit-done c.args.store.now n v (sought_of c.loop-library.self) (past-end v.next (loaded v.loader).header.library_count (λ under. absurd (let some = c.in_default.ensures.there.1 under in cc)))
