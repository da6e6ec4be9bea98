-- The key, the bytes, and the quote after them.
use Rattle.cfm_rows.specs.Sections.{encoded_member}
use Rattle.pef_ports.proofs.Laws.Sending.{Sends-short, Sends-then, StopsShort-longer, StopsShort-then}
use Rattle.cfm_rows.proofs.sections.print_encoded.Goals as goal

pub returns-in_err-send : goal.returns-in_err-send
unfolding encoded_member
returns-in_err-send g c = Sends-short _ c.from_residual.result _ c.from_residual.ensures.1 (StopsShort-longer _ c.in_err-send.ensures)

pub returns-in_err-print_base64 : goal.returns-in_err-print_base64
unfolding encoded_member
returns-in_err-print_base64 g c = Sends-short _ c.from_residual-in_err-print_base64.result _ c.from_residual-in_err-print_base64.ensures.1 (StopsShort-then c.in_ok-send.ensures (StopsShort-longer _ c.in_err-print_base64.ensures))

pub returns : goal.returns
unfolding encoded_member
returns g c = Sends-then c.send-2.result (g.W.Sink.stream c.send-2.new.out) _ _ c.in_ok-send.ensures (Sends-then c.send-2.result (g.W.Sink.stream c.send-2.new.out) _ _ c.in_ok-print_base64.ensures (c.send-2.ensures))
