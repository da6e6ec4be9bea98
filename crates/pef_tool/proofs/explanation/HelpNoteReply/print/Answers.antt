-- The text and then what else is known.
use Rattle.pef_ports.proofs.Laws.Sending.{Sends-short, Sends-then, StopsShort-longer}
use Rattle.pef_faults.specs.Notes.Notes.{note_text}
use Rattle.pef_tool.proofs.explanation.HelpNoteReply.print.Goals as goal

pub returns-in_err-send : goal.returns-in_err-send
returns-in_err-send g c = Sends-short _ c.from_residual.result _ c.from_residual.ensures.1 (StopsShort-longer (note_text c.args.self.now.note) c.in_err-send.ensures)

pub returns : goal.returns
returns g c = Sends-then c.print_note.result (g.W.Sink.stream c.print_note.new.out) c.print_note.new.page.items (note_text c.args.self.now.note) c.in_ok-send.ensures c.print_note.ensures
