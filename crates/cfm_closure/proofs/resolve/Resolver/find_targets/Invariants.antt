-- The imports left decide, and all targets so far are known.
use Rattle.std.proofs.Common.{◌≡◌, ℕ, ◌-◌, ◌<◌}
use Rattle.pef_words.specs.Refusals.{first_among}
use Rattle.cfm_closure.specs.Fragments.{import_count}
use Rattle.cfm_closure.specs.Closures.{import_refusal, imports_refusal}
use Rattle.cfm_closure.specs.Kept.Resolvers.{IsResolver}
use Rattle.cfm_closure.specs.Kept.Targets.{IsKnown, Keeps}
use Rattle.cfm_closure.proofs.resolve.Resolver.find_targets.Given as goal

abbrev pub invariant-loop-j : goal.invariant-loop-j
invariant-loop-j l = record {
  resolver : IsResolver l.fn.bindings.pairs l.fn.bindings.order l.self;
  keeps : Keeps l.fn.bindings l.bindings;
  known : (k : ℕ) → k < l.j → IsKnown l.bindings.rows l.p k;
  rest : first_among (import_refusal l.fn.bindings.pairs l.p) l.j (import_count l.fn.bindings.pairs l.p - l.j) ≡ imports_refusal l.fn.bindings.pairs l.p;
}
