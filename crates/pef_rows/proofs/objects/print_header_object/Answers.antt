-- The versions and then the counts.
use Rattle.pef_rows.specs.Objects.{header_counts, header_object}
use Rattle.pef_ports.proofs.Laws.Sending.{Sends-short, Sends-then, StopsShort-longer}
use Rattle.pef_rows.proofs.objects.print_header_object.Goals as goal

pub returns-in_err-print_header_versions : goal.returns-in_err-print_header_versions
unfolding header_object
returns-in_err-print_header_versions g c = Sends-short _ c.from_residual.result _ c.from_residual.ensures.1 (StopsShort-longer (header_counts c.args.row.header) c.in_err-print_header_versions.ensures)

pub returns : goal.returns
unfolding header_object
returns g c = Sends-then c.print_header_counts.result (g.W.Sink.stream c.print_header_counts.new.out) _ _ c.in_ok-print_header_versions.ensures c.print_header_counts.ensures
