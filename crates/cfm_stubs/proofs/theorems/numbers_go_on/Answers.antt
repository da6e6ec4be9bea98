-- Numbers go on from stub to stub.
use Rattle.cfm_stubs.proofs.ExactLemmas.{stubs_go_on}
use Rattle.cfm_stubs.proofs.theorems.numbers_go_on.Goals as goal

pub returns : goal.returns
returns c = stubs_go_on
