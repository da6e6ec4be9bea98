use Rattle.pef_plan.proofs.NameFacts.{least-names}
use Rattle.pef_plan.proofs.theorems.least_programs_name_what_is_used.Goals as goal

pub returns : goal.returns
returns c = least-names
