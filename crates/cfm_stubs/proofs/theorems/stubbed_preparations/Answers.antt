-- What a preparation ends with.
use Rattle.cfm_stubs.proofs.PreparationLemmas.{preparation-ends}
use Rattle.cfm_stubs.proofs.theorems.stubbed_preparations.Goals as goal

pub returns : goal.returns
returns c = preparation-ends
