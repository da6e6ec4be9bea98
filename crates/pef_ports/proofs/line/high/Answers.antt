use Rattle.std.proofs.Common.{arith, rules}
use Rattle.pef_ports.proofs.DigitLemmas.{DIGITS_at}
use Rattle.pef_ports.proofs.line.high.Goals as goal

pub returns : goal.returns
returns c = rw (c.from.ensures) (DIGITS_at c.args.byte (search (rules, arith))).0
