-- Without a companion nothing is printed.
use Rattle.std.proofs.Common.{[], refl}
use Rattle.pef_tool.proofs.inspect.print_beside.Goals as goal

pub returns-in-None : goal.returns-in-None
returns-in-None g c = rw c.in-None.is ([], 0, (refl, refl), c.print_nothing.ensures.sent, c.print_nothing.ensures.none)
