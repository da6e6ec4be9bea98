use Rattle.pef_plan.proofs.Reaching.{reached-exact, reached-least}
use Rattle.pef_plan.proofs.theorems.reached_labels_are_least.Goals as goal

pub returns : goal.returns
returns c = record { labels = reached-exact; states = reached-least }
