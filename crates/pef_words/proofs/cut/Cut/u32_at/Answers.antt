use Rattle.std.proofs.Common.{rules}
use Rattle.pef_words.specs.Bytes.{number_at, part_of}
use Rattle.pef_words.proofs.cut.Cut.u32_at.Goals as goal

pub returns : goal.returns
unfolding number_at part_of
returns c = search rules
