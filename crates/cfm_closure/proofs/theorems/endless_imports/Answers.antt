use Rattle.cfm_closure.proofs.ClosedLemmas.{endless}
use Rattle.cfm_closure.proofs.EndlessLemmas.{closed-endless}
use Rattle.cfm_closure.proofs.theorems.endless_imports.Goals as goal

pub returns : goal.returns
returns c = record { bound = endless; refused = closed-endless }
