use Rattle.std.proofs.Common.{rules}
use Rattle.cfm_prepare.proofs.fragment_fault.FragmentFault.number.Goals as goal

pub returns-in-NoRoom : goal.returns-in-NoRoom
returns-in-NoRoom c = search rules
