use Rattle.std.proofs.Common.{rules}
use Rattle.pef_script.proofs.text.fault.LineFault.name.Goals as goal

pub returns-in-TooMany : goal.returns-in-TooMany
returns-in-TooMany c = search rules
