-- The versions fit each entry.
use Rattle.cfm_stubs.proofs.FitLemmas.{versions_fit}
use Rattle.cfm_stubs.proofs.theorems.versions_fit_each.Goals as goal

pub returns : goal.returns
returns c = versions_fit
