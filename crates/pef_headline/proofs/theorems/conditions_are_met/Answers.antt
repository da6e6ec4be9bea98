use Rattle.pef_headline.proofs.ConditionLemmas.{conditions-met}
use Rattle.pef_headline.proofs.theorems.conditions_are_met.Goals as goal

pub returns : goal.returns
returns c = conditions-met
