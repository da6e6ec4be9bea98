use Rattle.pef_headline.proofs.ReachedLemmas.{stays-through}
use Rattle.pef_headline.proofs.theorems.fragments_stay.Goals as goal

pub returns : goal.returns
returns c = stays-through
