use Rattle.cfm_closure.proofs.ReadLemmas.{closed-no_container, closed-no_loader}
use Rattle.cfm_closure.proofs.theorems.unread_fragments.Goals as goal

pub returns : goal.returns
returns c = record { container = closed-no_container; loader = closed-no_loader }
