use Rattle.std.proofs.Common.{rules}
use Rattle.cfm_memory.specs.Placement.{step_of}
use Rattle.cfm_memory.proofs.granule.step_by.Goals as goal

pub returns-clause-value : goal.returns-clause-value
unfolding step_of
returns-clause-value c = search rules
