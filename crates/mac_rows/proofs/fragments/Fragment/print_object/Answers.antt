-- One part of the object after the other.
use Rattle.pef_ports.proofs.Laws.Sending.{Sends-short, Sends-then, StopsShort-longer, StopsShort-then}
use Rattle.mac_rows.proofs.fragments.Fragment.print_object.Goals as goal

pub returns-in_err-print_place : goal.returns-in_err-print_place
returns-in_err-print_place g c = Sends-short _ c.from_residual.result _ c.from_residual.ensures.1 (StopsShort-longer _ c.in_err-print_place.ensures)

pub returns-in_err-print_codes : goal.returns-in_err-print_codes
returns-in_err-print_codes g c = Sends-short _ c.from_residual-in_err-print_codes.result _ c.from_residual-in_err-print_codes.ensures.1 (StopsShort-then c.in_ok-print_place.ensures (StopsShort-longer _ c.in_err-print_codes.ensures))

pub returns-in_err-print_versions : goal.returns-in_err-print_versions
returns-in_err-print_versions g c = Sends-short _ c.from_residual-in_err-print_versions.result _ c.from_residual-in_err-print_versions.ensures.1 (StopsShort-then c.in_ok-print_place.ensures (StopsShort-then c.in_ok-print_codes.ensures (StopsShort-longer _ c.in_err-print_versions.ensures)))

pub returns : goal.returns
returns g c = Sends-then c.print_fields.result (g.W.Sink.stream c.print_fields.new.out) _ _ c.in_ok-print_place.ensures (Sends-then c.print_fields.result (g.W.Sink.stream c.print_fields.new.out) _ _ c.in_ok-print_codes.ensures (Sends-then c.print_fields.result (g.W.Sink.stream c.print_fields.new.out) _ _ c.in_ok-print_versions.ensures c.print_fields.ensures))
