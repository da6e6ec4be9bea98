use Rattle.std.proofs.Common.{arith}
use Rattle.std.proofs.lemmas.Grind.{common_steps}
use Rattle.pef_words.specs.Bytes.{number_at, part_of}
use Rattle.pef_words.proofs.cut.Cut.u8_at.Goals as goal

pub returns : goal.returns
unfolding number_at part_of
returns c = grind (arith, common_steps)
