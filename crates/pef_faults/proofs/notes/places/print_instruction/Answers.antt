use Rattle.pef_faults.specs.Notes.Places.{instruction_sentence}
use Rattle.pef_faults.proofs.notes.places.print_instruction.Goals as goal

pub returns : goal.returns
unfolding instruction_sentence
returns g c = rw (← c.from.ensures) c.print_pieces.ensures
