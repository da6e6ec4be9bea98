use Rattle.std.proofs.Common.{rules}
use Rattle.pef_plan.proofs.runs.run.Run.begins.Goals as goal

pub returns-in-Some : goal.returns-in-Some
returns-in-Some c = (c.in-Some.field-0.now, search rules)
