use Rattle.std.proofs.Common.{◌≡◌, ◌-◌}
use Rattle.pef_loader.specs.Views.{loaded}
use Rattle.pef_ports.proofs.Laws.Sending.{IsSentUpTo}
use Rattle.cfm_rows.specs.Imports.{import_elements}
use Rattle.cfm_rows.proofs.imports.print_rows.Given as goal

abbrev pub invariant-loop-j : goal.invariant-loop-j
invariant-loop-j g l = record {
  sent : IsSentUpTo (g.W.Sink.stream l.fn.out) (g.W.Sink.stream l.out) l.fn.page.items l.page.items
      (import_elements l.context l.place.connection.0 l.place.position (loaded l.loader) 0 (loaded l.loader).header.import_count)
      (import_elements l.context l.place.connection.0 l.place.position (loaded l.loader) l.j ((loaded l.loader).header.import_count - l.j));
  same : l.imports.loader ≡ l.loader;
}
