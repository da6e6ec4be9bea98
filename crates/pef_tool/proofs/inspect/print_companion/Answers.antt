-- Of a file that wasn't read no companion is printed.
use Rattle.std.proofs.Common.{[], refl}
use Rattle.pef_tool.proofs.inspect.print_companion.Goals as goal

pub returns-in-Err : goal.returns-in-Err
returns-in-Err g c = rw c.in-Err.is ([], 0, (refl, refl), c.print_nothing.ensures.sent, c.print_nothing.ensures.none)
