use Rattle.cfm_closure.proofs.InitOrderLemmas.{closed-init}
use Rattle.cfm_closure.proofs.theorems.init_orders.Goals as goal

pub returns : goal.returns
returns c = closed-init
