use Rattle.std.proofs.Common.{rules}
use Rattle.pef_lines.proofs.numbers.decimal_number.Goals as goal

pub returns-in-48-2 : goal.returns-in-48-2
returns-in-48-2 c = search rules
