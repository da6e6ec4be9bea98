use Rattle.std.proofs.Common.{rules}
use Rattle.pef_script.proofs.text.fault.ScriptFault.name.Goals as goal

pub returns-in-OutOfMemory : goal.returns-in-OutOfMemory
returns-in-OutOfMemory c = search rules
