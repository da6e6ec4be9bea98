-- Delivered with some outcome.
use Rattle.pef_tool.proofs.explanation.write_number.Goals as goal

pub returns : goal.returns
returns g c = (c.deliver.result, c.deliver.ensures)
