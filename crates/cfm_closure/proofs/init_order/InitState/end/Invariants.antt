-- The fragments left decide.
use Rattle.std.proofs.Common.{◌≡◌, drop}
use Rattle.cfm_closure.specs.Initialization.{first_left}
use Rattle.cfm_closure.specs.Kept.Taken.{taken_of}
use Rattle.cfm_closure.proofs.init_order.InitState.end.Given as goal

abbrev pub invariant-loop-p : goal.invariant-loop-p
invariant-loop-p l = first_left (taken_of l.self) (drop l.p-index l.bindings.order) ≡ first_left (taken_of l.self) l.bindings.order
