use Rattle.std.proofs.Common.{rules}
use Rattle.cfm_closure.proofs.closures.Closure.init_order.Goals as goal

pub returns : goal.returns
returns c = search rules
