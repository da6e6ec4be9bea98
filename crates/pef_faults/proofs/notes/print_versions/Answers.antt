use Rattle.pef_faults.specs.Notes.Notes.{versions_text}
use Rattle.pef_faults.proofs.notes.print_versions.Goals as goal

pub returns : goal.returns
unfolding versions_text
returns g c = rw (← c.from.ensures, ← c.from-2.ensures, ← c.from-3.ensures, ← c.from-4.ensures) c.print_pieces.ensures
