use Rattle.std.proofs.Common.{rules}
use Rattle.pef_plan.proofs.fault.PlanFault.name.Goals as goal

pub returns : goal.returns
returns c = search rules
