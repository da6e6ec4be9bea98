-- The fragments left decide.
use Rattle.std.proofs.Common.{◌≡◌, drop}
use Rattle.cfm_closure.specs.Initialization.{next_ready}
use Rattle.cfm_closure.specs.Kept.Taken.{IsInitState, taken_of}
use Rattle.cfm_closure.proofs.init_order.InitState.next_ready.Given as goal

abbrev pub invariant-loop-p : goal.invariant-loop-p
invariant-loop-p l = record {
  taking : IsInitState l.bindings.pairs l.bindings.order l.self;
  same : taken_of l.self ≡ taken_of l.fn.self;
  rest : next_ready l.bindings.pairs (taken_of l.fn.self) (drop l.p-index l.bindings.order) ≡ next_ready l.bindings.pairs (taken_of l.fn.self) l.bindings.order;
}
