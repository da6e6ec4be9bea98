use Rattle.std.proofs.Common.{rules}
use Rattle.pef_plan.proofs.planner.plan.Goals as goal

pub returns-clause-section : goal.returns-clause-section
returns-clause-section c = search rules
