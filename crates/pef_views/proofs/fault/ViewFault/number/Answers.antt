use Rattle.std.proofs.Common.{rules}
use Rattle.pef_views.proofs.fault.ViewFault.number.Goals as goal

pub returns-in-SectionOutside : goal.returns-in-SectionOutside
returns-in-SectionOutside c = search rules
