-- The section, its words, and the end of the object.
use Rattle.cfm_rows.specs.Relocations.{relocation_object}
use Rattle.pef_ports.proofs.Laws.Sending.{Sends-short, Sends-then, StopsShort-longer, StopsShort-then}
use Rattle.cfm_rows.proofs.relocations.print_relocation.Goals as goal

pub returns-in_err-print_pieces : goal.returns-in_err-print_pieces
unfolding relocation_object
returns-in_err-print_pieces g c = Sends-short _ c.from_residual.result _ c.from_residual.ensures.1 (StopsShort-longer _ (rw c.from.ensures at c.in_err-print_pieces.ensures))

pub returns-in_err-print_program : goal.returns-in_err-print_program
unfolding relocation_object
returns-in_err-print_program g c = Sends-short _ c.from_residual-in_err-print_program.result _ c.from_residual-in_err-print_program.ensures.1 (StopsShort-then (rw c.from.ensures at c.in_ok-print_pieces.ensures) (StopsShort-longer _ c.in_err-print_program.ensures))

pub returns : goal.returns
unfolding relocation_object
returns g c = Sends-then c.send.result (g.W.Sink.stream c.send.new.out) _ _ (rw c.from.ensures at c.in_ok-print_pieces.ensures) (Sends-then c.send.result (g.W.Sink.stream c.send.new.out) _ _ c.in_ok-print_program.ensures (c.send.ensures))
