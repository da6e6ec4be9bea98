use Rattle.cfm_closure.proofs.ReadLemmas.{closed-refused}
use Rattle.cfm_closure.proofs.theorems.readable_stores.Goals as goal

pub returns : goal.returns
returns c = λ pairs root r read inside is. closed-refused pairs read root r inside is
