use Rattle.std.proofs.Common.{rules}
use Rattle.pef_cert.proofs.sweep.is_zero.Goals as goal

pub loop-label-preserved : goal.loop-label-preserved
loop-label-preserved c = search rules
