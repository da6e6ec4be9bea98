use Rattle.cfm_closure.proofs.ClosedLemmas.{own-target, same-targets}
use Rattle.cfm_closure.proofs.theorems.closures_agree.Goals as goal

pub returns : goal.returns
returns c = record { own = own-target; agree = same-targets }
