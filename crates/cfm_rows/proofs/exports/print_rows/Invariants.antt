use Rattle.std.proofs.Common.{◌-◌}
use Rattle.pef_loader.specs.Views.{loaded}
use Rattle.pef_ports.proofs.Laws.Sending.{IsSentUpTo}
use Rattle.cfm_rows.specs.Exports.{export_elements}
use Rattle.cfm_rows.proofs.exports.print_rows.Given as goal

abbrev pub invariant-loop-i : goal.invariant-loop-i
invariant-loop-i g l = IsSentUpTo (g.W.Sink.stream l.fn.out) (g.W.Sink.stream l.out) l.fn.page.items l.page.items
    (export_elements l.context l.place.connection.0 l.place.position 0 (loaded l.loader).header.export_count)
    (export_elements l.context l.place.connection.0 l.place.position l.i ((loaded l.loader).header.export_count - l.i))
