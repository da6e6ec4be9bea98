-- The entries before this one wait for nothing.
use Rattle.std.proofs.Common.{◌≡◌, ℕ, ◌<◌, None}
use Rattle.cfm_closure.specs.Initialization.{awaits}
use Rattle.cfm_closure.specs.Kept.Taken.{taken_of}
use Rattle.cfm_closure.proofs.init_order.InitState.passed.Given as goal

abbrev pub invariant-loop-l : goal.invariant-loop-l
invariant-loop-l l = (k : ℕ) → k < l.l → awaits l.bindings.pairs (taken_of l.self) l.p k ≡ None
