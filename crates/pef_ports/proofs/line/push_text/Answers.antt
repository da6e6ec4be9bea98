use Rattle.std.proofs.Common.{rules}
use Rattle.pef_ports.proofs.line.push_text.Goals as goal

pub returns-clause-text : goal.returns-clause-text
returns-clause-text c = search rules

pub returns-clause-len : goal.returns-clause-len
returns-clause-len c = search rules
