use Rattle.std.proofs.Common.{rules}
use Rattle.pef_cert.specs.Text.Lines.{registers_line}
use Rattle.pef_cert.proofs.text.numbers.registers_line.Goals as goal

pub returns-clause-registers : goal.returns-clause-registers
unfolding registers_line
returns-clause-registers c = search rules
