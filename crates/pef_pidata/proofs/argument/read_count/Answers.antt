use Rattle.std.proofs.Common.{rules}
use Rattle.pef_pidata.specs.Instructions.{counted}
use Rattle.pef_pidata.proofs.argument.read_count.Goals as goal

pub returns-then-low-eq0-clause-read : goal.returns-then-low-eq0-clause-read
unfolding counted
returns-then-low-eq0-clause-read c = search rules
