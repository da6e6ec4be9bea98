use Rattle.std.proofs.Common.{rules}
use Rattle.cfm_closure.proofs.fault.BindFault.name.Goals as goal

pub returns-in-ImplementationTooOld : goal.returns-in-ImplementationTooOld
returns-in-ImplementationTooOld c = search rules
