-- Both ends are reported.
use Rattle.pef_tool.specs.Kept.Rooted.{prepares, refuses}
use Rattle.pef_tool.proofs.loaded.deliver_root.Goals as goal

pub returns-in-Ok : goal.returns-in-Ok
returns-in-Ok g c = (prepares c.in-Ok.loaded.context c.in-Ok.loaded.connection.0, c.in-Ok.ensures.prepared, c.deliver.ensures)

pub returns-in-Err : goal.returns-in-Err
returns-in-Err g c = (refuses c.in-Err.fault, c.in-Err.ensures.refused, c.deliver-in-Err.ensures)
