use Rattle.pef_faults.specs.Notes.Places.{field_sentence}
use Rattle.pef_faults.proofs.notes.places.print_field.Goals as goal

pub returns-in-PackedData : goal.returns-in-PackedData
unfolding field_sentence
returns-in-PackedData g c = rw (c.in-PackedData.is) c.print_pieces.ensures
