-- Each member after the one before it.
use Rattle.cfm_rows.specs.Fragments.{loader_members}
use Rattle.pef_ports.proofs.Laws.Sending.{Sends-short, Sends-then, StopsShort-longer, StopsShort-then}
use Rattle.cfm_rows.proofs.fragments.print_loader_members.Goals as goal

pub returns-in_err-send : goal.returns-in_err-send
unfolding loader_members
returns-in_err-send g c = Sends-short _ c.from_residual.result _ c.from_residual.ensures.1 (StopsShort-longer _ c.in_err-send.ensures)

pub returns-in_err-print_imports : goal.returns-in_err-print_imports
unfolding loader_members
returns-in_err-print_imports g c = Sends-short _ c.from_residual-in_err-print_imports.result _ c.from_residual-in_err-print_imports.ensures.1 (StopsShort-then c.in_ok-send.ensures (StopsShort-longer _ (rw c.loader_of-loader.ensures at c.in_err-print_imports.ensures)))

pub returns-in_err-send-2 : goal.returns-in_err-send-2
unfolding loader_members
returns-in_err-send-2 g c = Sends-short _ c.from_residual-in_err-send-2.result _ c.from_residual-in_err-send-2.ensures.1 (StopsShort-then c.in_ok-send.ensures (StopsShort-then (rw c.loader_of-loader.ensures at c.in_ok-print_imports.ensures) (StopsShort-longer _ c.in_err-send-2.ensures)))

pub returns-in_err-print_exports : goal.returns-in_err-print_exports
unfolding loader_members
returns-in_err-print_exports g c = Sends-short _ c.from_residual-in_err-print_exports.result _ c.from_residual-in_err-print_exports.ensures.1 (StopsShort-then c.in_ok-send.ensures (StopsShort-then (rw c.loader_of-loader.ensures at c.in_ok-print_imports.ensures) (StopsShort-then c.in_ok-send-2.ensures (StopsShort-longer _ (rw c.loader_of-loader.ensures at c.in_err-print_exports.ensures)))))

pub returns-in_err-send-3 : goal.returns-in_err-send-3
unfolding loader_members
returns-in_err-send-3 g c = Sends-short _ c.from_residual-in_err-send-3.result _ c.from_residual-in_err-send-3.ensures.1 (StopsShort-then c.in_ok-send.ensures (StopsShort-then (rw c.loader_of-loader.ensures at c.in_ok-print_imports.ensures) (StopsShort-then c.in_ok-send-2.ensures (StopsShort-then (rw c.loader_of-loader.ensures at c.in_ok-print_exports.ensures) (StopsShort-longer _ c.in_err-send-3.ensures)))))

pub returns-in_err-print_relocations : goal.returns-in_err-print_relocations
unfolding loader_members
returns-in_err-print_relocations g c = Sends-short _ c.from_residual-in_err-print_relocations.result _ c.from_residual-in_err-print_relocations.ensures.1 (StopsShort-then c.in_ok-send.ensures (StopsShort-then (rw c.loader_of-loader.ensures at c.in_ok-print_imports.ensures) (StopsShort-then c.in_ok-send-2.ensures (StopsShort-then (rw c.loader_of-loader.ensures at c.in_ok-print_exports.ensures) (StopsShort-then c.in_ok-send-3.ensures (StopsShort-longer _ (rw c.loader_of-loader.ensures at c.in_err-print_relocations.ensures)))))))

pub returns : goal.returns
unfolding loader_members
returns g c = Sends-then c.send-4.result (g.W.Sink.stream c.send-4.new.out) _ _ c.in_ok-send.ensures (Sends-then c.send-4.result (g.W.Sink.stream c.send-4.new.out) _ _ (rw c.loader_of-loader.ensures at c.in_ok-print_imports.ensures) (Sends-then c.send-4.result (g.W.Sink.stream c.send-4.new.out) _ _ c.in_ok-send-2.ensures (Sends-then c.send-4.result (g.W.Sink.stream c.send-4.new.out) _ _ (rw c.loader_of-loader.ensures at c.in_ok-print_exports.ensures) (Sends-then c.send-4.result (g.W.Sink.stream c.send-4.new.out) _ _ c.in_ok-send-3.ensures (Sends-then c.send-4.result (g.W.Sink.stream c.send-4.new.out) _ _ (rw c.loader_of-loader.ensures at c.in_ok-print_relocations.ensures) (c.send-4.ensures))))))
