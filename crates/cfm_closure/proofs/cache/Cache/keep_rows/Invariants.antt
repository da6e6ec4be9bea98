-- The closure stays, and the rows so far are kept.
use Rattle.std.proofs.Common.{◌≡◌}
use Rattle.cfm_closure.specs.Kept.Caches.{KeepsFirst}
use Rattle.cfm_closure.proofs.cache.Cache.keep_rows.Given as goal

abbrev pub invariant-loop-i : goal.invariant-loop-i
invariant-loop-i l = record {
  same : l.bindings ≡ l.fn.bindings;
  views : l.self.views ≡ l.fn.self.views;
  rows : KeepsFirst l.fn.bindings.pairs l.fn.bindings.order l.i l.fn.self.rows l.self.rows;
}
