use Rattle.cfm_closure.proofs.ClosedLemmas.{closed-target}
use Rattle.cfm_closure.proofs.theorems.closure_targets.Goals as goal

pub returns : goal.returns
returns c = closed-target
