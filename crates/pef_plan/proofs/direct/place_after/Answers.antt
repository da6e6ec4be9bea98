use Rattle.std.proofs.Common.{rules}
use Rattle.pef_plan.proofs.direct.place_after.Goals as goal

pub returns-clause-left : goal.returns-clause-left
returns-clause-left c = search rules
