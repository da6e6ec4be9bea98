use Rattle.std.proofs.Common.{rules}
use Rattle.cfm_prepare.proofs.context.Context.closure.Goals as goal

pub returns : goal.returns
returns c = search rules
