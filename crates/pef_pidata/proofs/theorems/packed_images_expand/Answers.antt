use Rattle.pef_pidata.proofs.Packings.{packed-expands}
use Rattle.pef_pidata.proofs.theorems.packed_images_expand.Goals as goal

pub returns : goal.returns
returns c = packed-expands
