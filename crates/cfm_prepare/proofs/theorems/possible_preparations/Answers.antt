use Rattle.cfm_prepare.proofs.EnoughLemmas.{prepares-to}
use Rattle.cfm_prepare.proofs.theorems.possible_preparations.Goals as goal

pub returns : goal.returns
returns c = prepares-to
