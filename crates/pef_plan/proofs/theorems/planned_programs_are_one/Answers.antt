use Rattle.pef_plan.proofs.PlannedLemmas.{one_planned, planned_least}
use Rattle.pef_plan.proofs.theorems.planned_programs_are_one.Goals as goal

pub returns : goal.returns
returns c = record { one = one_planned; least = planned_least }
