use Rattle.std.proofs.Common.{rules}
use Rattle.pef_cert.specs.Text.Lines.{row_line}
use Rattle.pef_cert.proofs.text.numbers.row_line.Goals as goal

pub returns-clause-labels : goal.returns-clause-labels
unfolding row_line
returns-clause-labels c = search rules
