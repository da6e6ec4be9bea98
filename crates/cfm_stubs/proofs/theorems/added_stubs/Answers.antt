-- A store with the stubs of what it lacks is one with stubs.
use Rattle.cfm_stubs.proofs.AddedLemmas.{added-stubbed}
use Rattle.cfm_stubs.proofs.theorems.added_stubs.Goals as goal

pub returns : goal.returns
returns c = added-stubbed
