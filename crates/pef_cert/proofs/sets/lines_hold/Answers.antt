use Rattle.std.proofs.Common.{rules}
use Rattle.pef_cert.proofs.sets.lines_hold.Goals as goal

pub returns-then-line_holds : goal.returns-then-line_holds
returns-then-line_holds c = search rules
