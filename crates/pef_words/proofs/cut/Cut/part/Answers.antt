use Rattle.std.proofs.Common.{rules}
use Rattle.pef_words.specs.Bytes.{part_of}
use Rattle.pef_words.proofs.cut.Cut.part.Goals as goal

pub returns-then-from-self : goal.returns-then-from-self
unfolding part_of
returns-then-from-self c = search rules
