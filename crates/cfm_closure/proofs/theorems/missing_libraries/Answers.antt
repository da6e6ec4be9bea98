use Rattle.cfm_closure.proofs.LackLemmas.{missing-weak}
use Rattle.cfm_closure.proofs.ListedLemmas.{missing-apart, missing-lacking}
use Rattle.cfm_closure.proofs.SoughtLemmas.{missing-complete}
use Rattle.cfm_closure.proofs.theorems.missing_libraries.Goals as goal

pub returns : goal.returns
returns c = record {
  lacking = missing-lacking;
  complete = missing-complete;
  once = missing-apart;
  weak = missing-weak;
}
