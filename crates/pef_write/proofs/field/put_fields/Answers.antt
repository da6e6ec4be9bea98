use Rattle.std.proofs.Common.{arith}
use Rattle.std.proofs.lemmas.Grind.{common_steps}
use Rattle.pef_write.specs.Fields.{spelled}
use Rattle.pef_write.proofs.field.put_fields.Goals as goal

pub loop-field-preserved : goal.loop-field-preserved
unfolding spelled
loop-field-preserved c = grind (arith, common_steps)
