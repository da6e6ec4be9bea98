use Rattle.pef_faults.specs.Notes.Places.{row_sentence}
use Rattle.pef_faults.proofs.notes.places.print_row.Goals as goal

pub returns : goal.returns
unfolding row_sentence
returns g c = rw (← c.has_rows.ensures, c.if-not-has_rows.false) c.print_pieces.ensures
