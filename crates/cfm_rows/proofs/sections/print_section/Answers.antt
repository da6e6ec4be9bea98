-- Each part of the object after the one before it.
use Rattle.cfm_rows.specs.Sections.{section_object}
use Rattle.pef_ports.proofs.Laws.Sending.{Sends-short, Sends-then, StopsShort-longer, StopsShort-then}
use Rattle.cfm_rows.proofs.sections.print_section.Goals as goal

pub returns-in_err-print_number : goal.returns-in_err-print_number
unfolding section_object
returns-in_err-print_number g c = Sends-short _ c.from_residual.result _ c.from_residual.ensures.1 (StopsShort-longer _ c.in_err-print_number.ensures)

pub returns-in_err-print_kinds : goal.returns-in_err-print_kinds
unfolding section_object
returns-in_err-print_kinds g c = Sends-short _ c.from_residual-in_err-print_kinds.result _ c.from_residual-in_err-print_kinds.ensures.1 (StopsShort-then c.in_ok-print_number.ensures (StopsShort-longer _ c.in_err-print_kinds.ensures))

pub returns-in_err-print_extent : goal.returns-in_err-print_extent
unfolding section_object
returns-in_err-print_extent g c = Sends-short _ c.from_residual-in_err-print_extent.result _ c.from_residual-in_err-print_extent.ensures.1 (StopsShort-then c.in_ok-print_number.ensures (StopsShort-then c.in_ok-print_kinds.ensures (StopsShort-longer _ c.in_err-print_extent.ensures)))

pub returns-in_err-print_bytes_member : goal.returns-in_err-print_bytes_member
unfolding section_object
returns-in_err-print_bytes_member g c = Sends-short _ c.from_residual-in_err-print_bytes_member.result _ c.from_residual-in_err-print_bytes_member.ensures.1 (StopsShort-then c.in_ok-print_number.ensures (StopsShort-then c.in_ok-print_kinds.ensures (StopsShort-then c.in_ok-print_extent.ensures (StopsShort-longer _ c.in_err-print_bytes_member.ensures))))

pub returns : goal.returns
unfolding section_object
returns g c = Sends-then c.send.result (g.W.Sink.stream c.send.new.out) _ _ c.in_ok-print_number.ensures (Sends-then c.send.result (g.W.Sink.stream c.send.new.out) _ _ c.in_ok-print_kinds.ensures (Sends-then c.send.result (g.W.Sink.stream c.send.new.out) _ _ c.in_ok-print_extent.ensures (Sends-then c.send.result (g.W.Sink.stream c.send.new.out) _ _ c.in_ok-print_bytes_member.ensures (c.send.ensures))))
