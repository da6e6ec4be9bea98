use Rattle.std.proofs.Common.{rules}
use Rattle.pef_hash.specs.Word.{hash_step}
use Rattle.pef_hash.proofs.word.hash_step.Goals as goal

pub returns : goal.returns
unfolding hash_step
returns c = search rules
