-- The targets stay, and the fragments are some of the store.
use Rattle.std.proofs.Common.{refl}
use Rattle.cfm_closure.proofs.CacheLemmas.{cache_of}
use Rattle.cfm_closure.proofs.cache.Cache.put_views.Goals as goal

pub returns-clause-cache : goal.returns-clause-cache
returns-clause-cache c = λ pairs read is. rw c.replace.ensures.after (cache_of pairs c.args.self.now.views c.args.self.now.rows is c.args.views c.args.self.now.rows read.size read.read refl)
