-- What is kept stays right, with the pair and without it.
use Rattle.std.proofs.Common.{false, inr, refl}
use Rattle.cfm_closure.proofs.CacheLemmas.{cache_added}
use Rattle.cfm_store.specs.Additions.{free_for, with_put}
use Rattle.cfm_closure.proofs.cached_store.CachedStore.put.Goals as goal

pub invariant_of-self : goal.invariant_of-self
unfolding with_put
invariant_of-self c =
    cache_added c.self.inside.store (with_put c.self.inside.store (record { name = c.args.name.now; bytes = c.args.bytes.now; free = false })) c.forget_changed.new.self.views c.forget_changed.new.self.rows c.put.result c.put.new.self
    c.put.ensures.ok c.put.ensures.err (c.forget_changed.ensures.with c.args.bytes.now (free_for c.self.inside.store c.args.name.now) (inr refl)) c.forget_changed.ensures.without
