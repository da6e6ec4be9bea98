-- The root, and one of each other name.
use Rattle.mac_fragments.proofs.ChoiceLemmas.{chosen-apart, chosen-served, root-first}
use Rattle.mac_fragments.proofs.theorems.chosen_fragments.Goals as goal

pub returns : goal.returns
returns c = record { root = root-first; apart = chosen-apart; served = chosen-served }
