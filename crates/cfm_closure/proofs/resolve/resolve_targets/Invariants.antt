-- The fragments left decide, and all targets so far are known.
use Rattle.std.proofs.Common.{◌≡◌, ℕ, ◌<◌, drop, get_or}
use Rattle.cfm_closure.specs.Closures.{first_refused}
use Rattle.cfm_closure.specs.Kept.Resolvers.{IsResolver}
use Rattle.cfm_closure.specs.Kept.Targets.{IsResolved, Keeps}
use Rattle.cfm_closure.proofs.resolve.resolve_targets.Given as goal

abbrev pub invariant-loop-i : goal.invariant-loop-i
invariant-loop-i l = record {
  resolver : IsResolver l.fn.bindings.pairs l.fn.bindings.order l.resolver;
  keeps : Keeps l.fn.bindings l.bindings;
  resolved : (k : ℕ) → k < l.i → IsResolved l.fn.bindings.pairs l.bindings.rows (get_or l.fn.bindings.order k 0);
  rest : first_refused l.fn.bindings.pairs (drop l.i l.fn.bindings.order) ≡ first_refused l.fn.bindings.pairs l.fn.bindings.order;
}
