-- A visit continues with the next fragment that wasn't visited.
use Rattle.std.proofs.Common.{◌∙◌, ◌-◌, ◌+◌, List, [], ◌∷◌, ◌++◌, length, sym, ap, arith}
use Rattle.cfm_closure.specs.declared.search.Visit.{Visit}
use Rattle.cfm_closure.specs.Kept.Searches.{next_and_rest, search_and_rest, sought_of}
use Rattle.cfm_closure.proofs.SearchLemmas.{Leads-from, visit-and-rest}
use Rattle.cfm_closure.proofs.search.Search.step.Goals as goal

pub returns-in_ok-push-in-Some-clause-leads : goal.returns-in_ok-push-in-Some-clause-leads
returns-in_ok-push-in-Some-clause-leads c =
    let pairs = c.args.store.now in
    let path = c.args.self.now.path.items in
    let k = length pairs - (length path + 1) in
    let t = sought_of c.search_on.new.self in
    let leads = c.in_ok-q.ensures.leads k ∙ ap (λ next. next_and_rest k pairs c.search_on.new.visit next t) c.in-Some.is in
    let pushed = c.in_ok-push-in-Some.ensures.items ∙ ap (λ p. p.items ++ c.search_on.new.visit ∷ []) c.in_ok-q.ensures.path in
    Leads-from c.enter.result _ _ _
    (visit-and-rest pairs path c.args.visit c.search_on.new.visit c.in-Some.q (sought_of c.args.self.now) t (omega (arith, c.requires.room)) leads
    ∙ ap (λ (path : List Visit). search_and_rest (length pairs) pairs c.in-Some.q path t) (sym pushed))
    c.enter.ensures.leads
