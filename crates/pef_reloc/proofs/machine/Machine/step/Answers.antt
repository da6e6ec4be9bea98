use Rattle.std.proofs.Common.{rules}
use Rattle.pef_reloc.proofs.machine.Machine.step.Goals as goal

pub returns-in-TVector12-clause-steps : goal.returns-in-TVector12-clause-steps
returns-in-TVector12-clause-steps c = search rules
