use Rattle.std.proofs.Common.{rules}
use Rattle.pef_plan.proofs.runs.run.Run.limit.Goals as goal

pub returns-in_default : goal.returns-in_default
returns-in_default c = search rules
