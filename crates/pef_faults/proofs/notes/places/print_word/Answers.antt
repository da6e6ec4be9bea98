use Rattle.pef_faults.proofs.notes.places.print_word.Goals as goal

pub returns-in-Some : goal.returns-in-Some
returns-in-Some g c = rw (c.in-Some.is) c.print_pieces.ensures
