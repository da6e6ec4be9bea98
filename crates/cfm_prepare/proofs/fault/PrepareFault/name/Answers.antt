use Rattle.std.proofs.Common.{rules}
use Rattle.cfm_prepare.proofs.fault.PrepareFault.name.Goals as goal

pub returns-in-RootMissing : goal.returns-in-RootMissing
returns-in-RootMissing c = search rules
