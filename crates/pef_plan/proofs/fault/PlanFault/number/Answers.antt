use Rattle.std.proofs.Common.{rules}
use Rattle.pef_plan.proofs.fault.PlanFault.number.Goals as goal

pub returns : goal.returns
returns c = search rules
