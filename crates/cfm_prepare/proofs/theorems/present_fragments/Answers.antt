use Rattle.cfm_prepare.proofs.RunLemmas.{run-closed, run-present}
use Rattle.cfm_prepare.proofs.theorems.present_fragments.Goals as goal

pub returns : goal.returns
returns c = record { present = run-present; closed = run-closed }
