-- What is left is right, with the fragment and without it.
use Rattle.cfm_store.specs.Stores.{pair_of}
use Rattle.cfm_closure.proofs.RemovalLemmas.{cache_left, cache_removed}
use Rattle.cfm_closure.proofs.cache.Cache.without.Goals as goal

pub returns-clause-without : goal.returns-clause-without
returns-clause-without c = cache_left c.args.store.now c.args.place c.args.self.now.views c.in_ok-views.views c.args.self.now.rows c.in_ok-rows.rows c.requires.cache c.in_ok-views.ensures c.in_ok-rows.ensures

pub returns-clause-with : goal.returns-clause-with
returns-clause-with c =
    cache_removed c.args.store.now c.args.place c.args.self.now.views c.in_ok-views.views c.args.self.now.rows c.in_ok-rows.rows c.requires.cache c.in_ok-views.ensures c.in_ok-rows.ensures
    (pair_of c.args.store.now c.args.place).name (c.is_first.ensures c.if-not-is_first.false)
