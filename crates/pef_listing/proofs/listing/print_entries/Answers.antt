-- Text after text.
use Rattle.pef_ports.proofs.Laws.Sending.{Prints-then, Sends-short, Sends-then, StopsShort-longer, StopsShort-then}
use Rattle.pef_listing.proofs.listing.print_entries.Goals as goal

pub returns-in_err-print_entry : goal.returns-in_err-print_entry
returns-in_err-print_entry g c = rw (← c.main-main.ensures.value, ← c.init-init.ensures.value, ← c.term-term.ensures.value) (Sends-short _ c.from_residual.result _ c.from_residual.ensures.1 (StopsShort-longer _ (StopsShort-longer _ c.in_err-print_entry.ensures)))

pub returns-in_err-print_entry-2 : goal.returns-in_err-print_entry-2
returns-in_err-print_entry-2 g c = rw (← c.main-main.ensures.value, ← c.init-init.ensures.value, ← c.term-term.ensures.value) (Sends-short _ c.from_residual-in_err-print_entry-2.result _ c.from_residual-in_err-print_entry-2.ensures.1 (StopsShort-longer _ (StopsShort-then c.in_ok-print_entry.ensures c.in_err-print_entry-2.ensures)))

pub returns : goal.returns
returns g c = rw (← c.main-main.ensures.value, ← c.init-init.ensures.value, ← c.term-term.ensures.value) (Sends-then c.print_entry-3.result (g.W.Sink.stream c.print_entry-3.new.out) _ _ (Prints-then c.in_ok-print_entry.ensures c.in_ok-print_entry-2.ensures) c.print_entry-3.ensures)
