use Rattle.std.proofs.Common.{rules}
use Rattle.cfm_closure.proofs.closures.Closure.order.Goals as goal

pub returns-clause-order : goal.returns-clause-order
returns-clause-order c = search rules
