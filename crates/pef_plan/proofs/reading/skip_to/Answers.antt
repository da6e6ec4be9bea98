use Rattle.pef_plan.proofs.MoveFacts.{no_offer}
use Rattle.pef_plan.proofs.reading.skip_to.Goals as goal

pub set_position-requires-clause-low : goal.set_position-requires-clause-low
set_position-requires-clause-low c = absurd (no_offer c.args.known c.args.here c.in-Import.field-0 c.requires.near c.in-Import.is)
