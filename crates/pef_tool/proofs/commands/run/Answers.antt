-- The status of the outcome.
use Rattle.pef_tool.proofs.commands.run.Goals as goal

pub returns : goal.returns
returns g c = (c.perform.ensures.0, c.perform.result, c.perform.ensures.1, c.perform.ensures.2, c.status.ensures)
