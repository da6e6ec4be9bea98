-- The fragments that a preparation places are sound.
use Rattle.cfm_sound.proofs.ConverseLemmas.{placed_are_sound}
use Rattle.cfm_sound.proofs.theorems.placed_containers_are_sound.Goals as goal

pub returns : goal.returns
returns c = placed_are_sound
