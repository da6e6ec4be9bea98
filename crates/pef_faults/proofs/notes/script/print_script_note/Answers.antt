-- The reason and then the line.
use Rattle.pef_ports.proofs.Laws.Sending.{Sends-short, Sends-then, StopsShort-longer}
use Rattle.pef_faults.specs.Notes.Excerpts.{excerpt_text}
use Rattle.pef_faults.proofs.notes.script.print_script_note.Goals as goal

pub returns-in_err-print_reason : goal.returns-in_err-print_reason
returns-in_err-print_reason g c = Sends-short _ c.from_residual.result _ c.from_residual.ensures.1 (StopsShort-longer (excerpt_text c.args.note.now.excerpt) c.in_err-print_reason.ensures)

pub returns : goal.returns
returns g c = Sends-then c.print_excerpt.result (g.W.Sink.stream c.print_excerpt.new.out) c.print_excerpt.new.page.items (excerpt_text c.args.note.now.excerpt) c.in_ok-print_reason.ensures c.print_excerpt.ensures
