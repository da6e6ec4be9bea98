-- The tables of the walk are those of its order.
use Rattle.std.proofs.Common.{map, ap, sym, subst, ◌∙◌, rules}
use Rattle.cfm_store.specs.Seen.{place_seen}
use Rattle.cfm_closure.specs.Kept.Bindings.{AreBindings}
use Rattle.cfm_closure.proofs.OrderFacts.{order-complete}
use Rattle.cfm_closure.proofs.bindings.Bindings.of.Goals as goal

pub invariant_of-result : goal.invariant_of-result
invariant_of-result c =
    let pairs = ap (map place_seen) c.in_ok-pairs.ensures.items ∙ c.pairs.ensures.pairs in
    let tables = c.in_ok-walked.ensures.walk in
    subst (λ pairs. AreBindings pairs c.visit_all-walked.new.self.closed c.visit_all-walked.new.self.order.items) (sym pairs) (record {
      size = tables.closed_size;
      walked = tables.walked;
      complete = order-complete c.args.store.now c.args.root c.visit_all-walked.new.self.order.items c.in_ok-walked.ensures.answer;
      few = c.pairs.ensures.few;
    })

pub returns-in_err-walk-clause-answer : goal.returns-in_err-walk-clause-answer
returns-in_err-walk-clause-answer c = search rules

pub returns-clause-answer : goal.returns-clause-answer
returns-clause-answer c = search rules

pub returns-in_err-walked-clause-cache : goal.returns-in_err-walked-clause-cache
returns-in_err-walked-clause-cache c = c.put_views.ensures.cache c.args.store.now c.visit_all-walked.ensures.views c.in_ok-views.ensures.cache

pub returns-in_err-pairs-clause-cache : goal.returns-in_err-pairs-clause-cache
returns-in_err-pairs-clause-cache c = c.put_views.ensures.cache c.args.store.now c.visit_all-walked.ensures.views c.in_ok-views.ensures.cache

pub returns-clause-cache : goal.returns-clause-cache
returns-clause-cache c = c.put_views.ensures.cache c.args.store.now c.visit_all-walked.ensures.views c.in_ok-views.ensures.cache
