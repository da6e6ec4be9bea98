use Rattle.std.proofs.Common.{rules}
use Rattle.pef_lines.specs.Words.{last_word}
use Rattle.pef_lines.proofs.words.last_word.Goals as goal

pub returns : goal.returns
unfolding last_word
returns c = search rules
