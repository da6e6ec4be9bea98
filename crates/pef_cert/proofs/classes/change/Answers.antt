use Rattle.std.proofs.Common.{rules}
use Rattle.pef_cert.proofs.classes.change.Goals as goal

pub returns-then-class-other : goal.returns-then-class-other
returns-then-class-other c = search rules

pub returns-else-class-other : goal.returns-else-class-other
returns-else-class-other c = search rules
