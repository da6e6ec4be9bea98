-- The codes and then the sizes.
use Rattle.std.specs.Prelude.{option_map}
use Rattle.pef_loader.specs.PartialViews.{cut_seen}
use Rattle.pef_rows.specs.Objects.{section_object, section_sizes}
use Rattle.pef_ports.proofs.Laws.Sending.{Sends-short, Sends-then, StopsShort-longer}
use Rattle.pef_rows.proofs.objects.print_section_object.Goals as goal

pub returns-in_err-print_section_codes : goal.returns-in_err-print_section_codes
unfolding section_object
returns-in_err-print_section_codes g c = Sends-short _ c.from_residual.result _ c.from_residual.ensures.1 (StopsShort-longer (section_sizes c.args.row.header (option_map cut_seen c.args.row.name) c.args.row.raw) c.in_err-print_section_codes.ensures)

pub returns : goal.returns
unfolding section_object
returns g c = Sends-then c.print_section_sizes.result (g.W.Sink.stream c.print_section_sizes.new.out) _ _ c.in_ok-print_section_codes.ensures c.print_section_sizes.ensures
