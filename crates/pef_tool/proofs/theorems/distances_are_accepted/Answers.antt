use Rattle.pef_tool.proofs.DistancesLemmas.{accepted}
use Rattle.pef_tool.proofs.theorems.distances_are_accepted.Goals as goal

pub returns : goal.returns
returns c = accepted
