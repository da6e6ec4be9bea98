use Rattle.pef_hash.proofs.RegularLemmas.{regular_ends_inside}
use Rattle.pef_hash.proofs.regular.regular_slots_end_inside.Goals as goal

pub returns : goal.returns
returns c = regular_ends_inside
