use Rattle.pef_faults.specs.Notes.Scripts.{reason_text}
use Rattle.pef_faults.proofs.notes.script.print_reason.Goals as goal

pub returns-in-Overlaps : goal.returns-in-Overlaps
unfolding reason_text
returns-in-Overlaps g c = rw (c.in-Overlaps.is) c.print_about-in-Overlaps.ensures
