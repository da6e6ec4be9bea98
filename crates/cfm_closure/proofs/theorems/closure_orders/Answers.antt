use Rattle.cfm_closure.proofs.OrderFacts.{order-complete, order-last}
use Rattle.cfm_closure.proofs.ClosedLemmas.{closed-complete, closed-order, closed-root, closed-store}
use Rattle.cfm_closure.proofs.theorems.closure_orders.Goals as goal

pub returns : goal.returns
returns c = record {
  walked = λ pairs root order. order-complete pairs root order;
  ends = λ pairs root order inside is. order-last pairs root order is inside;
  order = closed-order;
  store = closed-store;
  complete = closed-complete;
  root = closed-root;
}
