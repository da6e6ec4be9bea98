-- All files are written, or one isn't.
use Rattle.std.proofs.Common.{inl, inr, refl}
use Rattle.pef_tool.specs.Answers.Faults.{fault_answer}
use Rattle.pef_tool.proofs.writing.write_then_deliver.Goals as goal

pub returns-in-Ok : goal.returns-in-Ok
returns-in-Ok g c = (g.A.Reply.answer c.args.reply.now, inl (c.in-Ok.ensures.written, refl), c.deliver.ensures)

pub returns-in-Err : goal.returns-in-Err
returns-in-Err g c = (fault_answer c.in-Err.fault, inr (c.in-Err.fault, c.in-Err.ensures.refused, refl), c.deliver-in-Err.ensures)
