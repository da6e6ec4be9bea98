-- What is kept stays right, with the pair and without it.
use Rattle.std.proofs.Common.{None, false, inl, refl}
use Rattle.cfm_closure.proofs.CacheLemmas.{cache_added}
use Rattle.cfm_store.specs.Additions.{with_pair}
use Rattle.cfm_closure.proofs.cached_store.CachedStore.add.Goals as goal

pub invariant_of-self : goal.invariant_of-self
invariant_of-self c =
    cache_added c.self.inside.store (with_pair c.self.inside.store (record { name = c.args.name.now; bytes = c.args.bytes.now; free = false })) c.forget_changed.new.self.views c.forget_changed.new.self.rows c.add.result c.add.new.self
    c.add.ensures.ok c.add.ensures.err (c.forget_changed.ensures.with c.args.bytes.now None (inl refl)) c.forget_changed.ensures.without
