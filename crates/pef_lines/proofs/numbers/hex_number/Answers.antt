use Rattle.std.proofs.Common.{rules}
use Rattle.pef_lines.proofs.numbers.hex_number.Goals as goal

pub returns : goal.returns
returns c = search rules
