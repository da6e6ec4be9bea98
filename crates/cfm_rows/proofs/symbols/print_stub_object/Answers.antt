-- The name, the symbols, and the end of the object.
use Rattle.cfm_rows.specs.Symbols.{stub_object}
use Rattle.pef_ports.proofs.Laws.Sending.{Sends-short, Sends-then, StopsShort-longer, StopsShort-then}
use Rattle.cfm_rows.proofs.symbols.print_stub_object.Goals as goal

pub returns-in_err-print_front : goal.returns-in_err-print_front
unfolding stub_object
returns-in_err-print_front g c = Sends-short _ c.from_residual.result _ c.from_residual.ensures.1 (StopsShort-longer _ (rw c.name.ensures at c.in_err-print_front.ensures))

pub returns-in_err-print_symbol_objects : goal.returns-in_err-print_symbol_objects
unfolding stub_object
returns-in_err-print_symbol_objects g c = Sends-short _ c.from_residual-in_err-print_symbol_objects.result _ c.from_residual-in_err-print_symbol_objects.ensures.1 (StopsShort-then (rw c.name.ensures at c.in_ok-print_front.ensures) (StopsShort-longer _ c.in_err-print_symbol_objects.ensures))

pub returns : goal.returns
unfolding stub_object
returns g c = Sends-then c.send.result (g.W.Sink.stream c.send.new.out) _ _ (rw c.name.ensures at c.in_ok-print_front.ensures) (Sends-then c.send.result (g.W.Sink.stream c.send.new.out) _ _ c.in_ok-print_symbol_objects.ensures (c.send.ensures))
