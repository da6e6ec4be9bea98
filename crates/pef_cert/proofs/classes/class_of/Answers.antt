use Rattle.std.proofs.Common.{arith}
use Rattle.std.proofs.lemmas.Grind.{common_steps}
use Rattle.pef_cert.proofs.classes.class_of.Goals as goal

pub returns-then-register-section : goal.returns-then-register-section
returns-then-register-section c = grind (arith, common_steps)

pub loop-register-preserved : goal.loop-register-preserved
loop-register-preserved c = grind (arith, common_steps)
