use Rattle.cfm_prepare.proofs.KeepLemmas.{run-keeps}
use Rattle.cfm_prepare.proofs.theorems.kept_fragments.Goals as goal

pub returns : goal.returns
returns c = run-keeps
