-- The versions and then the imports.
use Rattle.pef_rows.specs.Objects.{library_imports, library_object}
use Rattle.pef_ports.proofs.Laws.Sending.{Sends-short, Sends-then, StopsShort-longer}
use Rattle.pef_rows.proofs.objects.print_library_object.Goals as goal

pub returns-in_err-print_library_versions : goal.returns-in_err-print_library_versions
unfolding library_object
returns-in_err-print_library_versions g c = Sends-short _ c.from_residual.result _ c.from_residual.ensures.1 (StopsShort-longer (library_imports c.args.row.library.fields) c.in_err-print_library_versions.ensures)

pub returns : goal.returns
unfolding library_object
returns g c = Sends-then c.print_library_imports.result (g.W.Sink.stream c.print_library_imports.new.out) _ _ c.in_ok-print_library_versions.ensures c.print_library_imports.ensures
