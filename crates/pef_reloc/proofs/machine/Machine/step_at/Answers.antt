use Rattle.pef_reloc.proofs.Runs.{runs-one}
use Rattle.pef_reloc.proofs.machine.Machine.step_at.Goals as goal

pub returns-in-Ok-clause-runs : goal.returns-in-Ok-clause-runs
returns-in-Ok-clause-runs c = runs-one _ _ _ _ _ _ _ _ c.in-Ok.ensures.steps

pub returns-in-Err-clause-runs : goal.returns-in-Err-clause-runs
returns-in-Err-clause-runs c = rw c.fault.ensures (runs-one _ _ _ _ _ _ _ _ c.in-Err.ensures.steps)
