-- The fragments left to be taken.
use Rattle.std.proofs.Common.{◌≡◌, ◌-◌, length}
use Rattle.cfm_closure.specs.Initialization.{init_order_of, take_ready}
use Rattle.cfm_closure.specs.Kept.Taken.{IsInitState, taken_of}
use Rattle.cfm_closure.proofs.init_order.initialized.Given as goal

abbrev pub invariant-loop-turn : goal.invariant-loop-turn
invariant-loop-turn l = record {
  taking : IsInitState l.bindings.pairs l.bindings.order l.taking;
  rest : take_ready (length l.bindings.order - l._turn) l.bindings.pairs l.bindings.order (taken_of l.taking) ≡ init_order_of l.bindings.pairs l.bindings.order;
}
