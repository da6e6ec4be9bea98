-- The output fails before the report is whole.
use Rattle.std.proofs.Common.{refl}
use Rattle.pef_ports.proofs.Laws.Sending.{Sends-short}
use Rattle.pef_tool.specs.Inspect.{blamed}
use Rattle.pef_tool.proofs.InspectLemmas.{no_value}
use Rattle.pef_tool.proofs.inspect.print_read.Goals as goal

pub returns-in_err-counts : goal.returns-in_err-counts
returns-in_err-counts g c =
    let w = c.in_err-counts.ensures in
    (w.0, blamed w.1, (w.1, w.2, refl), Sends-short _ c.from_residual.result _ c.from_residual.ensures.1 w.3, no_value _ _ c.from_residual.result c.from_residual.ensures.1)
