use Rattle.std.proofs.Common.{rules}
use Rattle.cfm_closure.proofs.fault.BindFault.number.Goals as goal

pub returns-in-LibraryMissing : goal.returns-in-LibraryMissing
returns-in-LibraryMissing c = search rules
