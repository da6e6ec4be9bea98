use Rattle.pef_reloc.proofs.Placing.{relocation-placed}
use Rattle.pef_reloc.proofs.theorems.refusals_have_places.Goals as goal

pub returns : goal.returns
returns c = relocation-placed
