-- Each part of the object after the one before it.
use Rattle.cfm_rows.specs.Fragments.{fragment_object}
use Rattle.pef_ports.proofs.Laws.Sending.{Sends-short, Sends-then, StopsShort-longer, StopsShort-then}
use Rattle.cfm_rows.proofs.fragments.print_fragment_object.Goals as goal

pub returns-in_err-print_front : goal.returns-in_err-print_front
unfolding fragment_object
returns-in_err-print_front g c = Sends-short _ c.from_residual.result _ c.from_residual.ensures.1 (StopsShort-longer _ (rw c.name_of.ensures at c.in_err-print_front.ensures))

pub returns-in_err-print_sections : goal.returns-in_err-print_sections
unfolding fragment_object
returns-in_err-print_sections g c = Sends-short _ c.from_residual-in_err-print_sections.result _ c.from_residual-in_err-print_sections.ensures.1 (StopsShort-then (rw c.name_of.ensures at c.in_ok-print_front.ensures) (StopsShort-longer _ c.in_err-print_sections.ensures))

pub returns-in_err-print_loader_members : goal.returns-in_err-print_loader_members
unfolding fragment_object
returns-in_err-print_loader_members g c = Sends-short _ c.from_residual-in_err-print_loader_members.result _ c.from_residual-in_err-print_loader_members.ensures.1 (StopsShort-then (rw c.name_of.ensures at c.in_ok-print_front.ensures) (StopsShort-then c.in_ok-print_sections.ensures (StopsShort-longer _ c.in_err-print_loader_members.ensures)))

pub returns-in_err-print_entries : goal.returns-in_err-print_entries
unfolding fragment_object
returns-in_err-print_entries g c = Sends-short _ c.from_residual-in_err-print_entries.result _ c.from_residual-in_err-print_entries.ensures.1 (StopsShort-then (rw c.name_of.ensures at c.in_ok-print_front.ensures) (StopsShort-then c.in_ok-print_sections.ensures (StopsShort-then c.in_ok-print_loader_members.ensures (StopsShort-longer _ (rw c.fragment_entries.ensures at c.in_err-print_entries.ensures)))))

pub returns : goal.returns
unfolding fragment_object
returns g c = Sends-then c.send.result (g.W.Sink.stream c.send.new.out) _ _ (rw c.name_of.ensures at c.in_ok-print_front.ensures) (Sends-then c.send.result (g.W.Sink.stream c.send.new.out) _ _ c.in_ok-print_sections.ensures (Sends-then c.send.result (g.W.Sink.stream c.send.new.out) _ _ c.in_ok-print_loader_members.ensures (Sends-then c.send.result (g.W.Sink.stream c.send.new.out) _ _ (rw c.fragment_entries.ensures at c.in_ok-print_entries.ensures) (c.send.ensures))))
