-- If the output fails, a prefix of the answer was written.
use Rattle.std.proofs.Common.{inr, refl}
use Rattle.pef_ports.proofs.Laws.Sending.{StopsShort-front}
use Rattle.pef_tool.proofs.answers.reply.deliver.Goals as goal

pub returns-in-Err : goal.returns-in-Err
returns-in-Err g c = inr (StopsShort-front c.in-Err.ensures, c.in-Err.ensures.failed, refl)
