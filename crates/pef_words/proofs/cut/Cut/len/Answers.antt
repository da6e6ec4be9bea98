use Rattle.std.proofs.Common.{rules}
use Rattle.pef_words.proofs.cut.Cut.len.Goals as goal

pub returns : goal.returns
returns c = search rules
