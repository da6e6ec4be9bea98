use Rattle.std.proofs.Common.{rules}
use Rattle.pef_words.proofs.cut.Cut.i32_at.Goals as goal

pub returns : goal.returns
returns c = search rules
