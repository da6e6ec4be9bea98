use Rattle.std.proofs.Common.{arith}
use Rattle.std.proofs.lemmas.Grind.{common_steps}
use Rattle.pef_write.proofs.sections.raw_sections.Goals as goal

pub loop-section-preserved : goal.loop-section-preserved
loop-section-preserved c = grind (arith, common_steps)
