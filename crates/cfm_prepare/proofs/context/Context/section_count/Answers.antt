use Rattle.std.proofs.Common.{rules}
use Rattle.cfm_prepare.proofs.context.Context.section_count.Goals as goal

pub returns : goal.returns
returns c = search rules
