-- What was read is kept.
use Rattle.cfm_closure.proofs.search.missing_with.Goals as goal

pub returns-in_err-searched-clause-cache : goal.returns-in_err-searched-clause-cache
returns-in_err-searched-clause-cache c = c.put_views.ensures.cache c.args.store.now c.visit_all-searched.ensures.views c.in_ok-views.ensures.cache

pub returns-clause-cache : goal.returns-clause-cache
returns-clause-cache c = c.put_views.ensures.cache c.args.store.now c.visit_all-searched.ensures.views c.in_ok-views.ensures.cache
