use Rattle.pef_plan.proofs.Reaching.{least-short}
use Rattle.pef_plan.proofs.theorems.least_programs_are_short.Goals as goal

pub returns : goal.returns
returns c = least-short
