use Rattle.std.proofs.Common.{arith}
use Rattle.std.proofs.lemmas.Grind.{common_steps}
use Rattle.pef_cert.proofs.registers.all_registered.Goals as goal

pub loop-fixup-preserved : goal.loop-fixup-preserved
loop-fixup-preserved c = grind (arith, common_steps)
