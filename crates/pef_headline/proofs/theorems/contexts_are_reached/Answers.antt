use Rattle.pef_headline.proofs.ReachedLemmas.{reached-made, reached-step}
use Rattle.pef_headline.proofs.theorems.contexts_are_reached.Goals as goal

pub returns : goal.returns
returns c = record { made = reached-made; step = reached-step }
