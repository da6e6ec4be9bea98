-- A pair whose name the store has, or no fragment that is kept has as a library, changes no targets.
use Rattle.std.proofs.Common.{◌∙◌, ℕ, Option, false, not, ap, subst, inl, inr}
use Rattle.std.specs.Prelude.{IsSome}
use Rattle.cfm_store.specs.Stores.{Pair}
use Rattle.cfm_closure.proofs.CacheLemmas.{cache_stays, cache_with}
use Rattle.cfm_closure.proofs.cache.Cache.forget_changed.Goals as goal
use Rattle.cfm_closure.proofs.cache.Cache.forget_changed.Goals.{else-is_none-via-then-is_none+else-names_library, else-is_none-via-else-is_none}

pub returns-then-names_library-clause-with : goal.returns-then-names_library-clause-with
returns-then-names_library-clause-with c = λ bytes o take.
    rw c.forget_targets.ensures.views
    (cache_with c.args.store.now c.args.self.now.views c.args.self.now.rows c.requires (record { name = c.args.name.now; bytes = bytes; free = false }) o take c.forget_targets.new.self.rows c.forget_targets.ensures.rows)

pub returns-else-is_none-clause-with : goal.returns-else-is_none-clause-with
returns-else-is_none-clause-with c = λ bytes o take.
    let pair : Pair = record { name = c.args.name.now; bytes = bytes; free = false } in
    let stays = cache_stays c.args.store.now c.args.self.now.views c.args.self.now.rows c.requires pair o take in
    elim c.else-is_none.branch [
      | else-is_none-via-then-is_none+else-names_library w ↦ stays (inr (w.names_library.ensures w.if-names_library.false c.args.store.now c.requires.read))
      | else-is_none-via-else-is_none w ↦ stays (inl (subst (λ (o : Option ℕ). IsSome o) c.find.ensures.place (c.is_none.ensures ∙ ap not w.if-is_none.false)))
    ]
