use Rattle.cfm_prepare.proofs.NowLemmas.{run-now, run-prepares}
use Rattle.cfm_prepare.proofs.theorems.prepared_fragments.Goals as goal

pub returns : goal.returns
returns c = record { now = run-now; closure = λ pairs choices steps s t rule name number p. run-prepares pairs choices steps s t name number p }
