-- The name, and then its length.
use Rattle.pef_rows.specs.Tokens.{cut_member}
use Rattle.pef_ports.proofs.Laws.Sending.{Sends-short, Sends-then, StopsShort-longer}
use Rattle.pef_rows.proofs.tokens.print_cut_member.Goals as goal

pub returns-in_err-print_member : goal.returns-in_err-print_member
unfolding cut_member
returns-in_err-print_member g c = Sends-short _ c.from_residual.result _ c.from_residual.ensures.1 (StopsShort-longer _ (rw c.split_at.ensures.front at c.in_err-print_member.ensures))

pub returns : goal.returns
unfolding cut_member
returns g c = Sends-then c.print_length_member.result (g.W.Sink.stream c.print_length_member.new.out) _ _ (rw c.split_at.ensures.front at c.in_ok-print_member.ensures) (rw c.name_length.ensures at c.print_length_member.ensures)
