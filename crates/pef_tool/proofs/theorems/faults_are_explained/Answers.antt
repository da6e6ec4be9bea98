use Rattle.pef_tool.proofs.ExplainLemmas.{explained}
use Rattle.pef_tool.proofs.theorems.faults_are_explained.Goals as goal

pub returns : goal.returns
returns c = explained
