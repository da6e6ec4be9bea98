-- The list is written as it is wanted.
use Rattle.std.proofs.Common.{refl}
use Rattle.pef_script.proofs.text.contents.vector_fixups.Goals as goal

pub returns : goal.returns
returns c = refl
