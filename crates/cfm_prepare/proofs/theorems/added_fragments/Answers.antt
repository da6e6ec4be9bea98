use Rattle.cfm_prepare.proofs.AddLemmas.{run-unused}
use Rattle.cfm_prepare.proofs.theorems.added_fragments.Goals as goal

pub returns-clause-unused : goal.returns-clause-unused
returns-clause-unused c = run-unused
