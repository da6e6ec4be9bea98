use Rattle.std.proofs.Common.{rules}
use Rattle.cfm_memory.proofs.memory.Memory.new.Goals as goal

pub returns : goal.returns
returns c = search rules
