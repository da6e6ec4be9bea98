use Rattle.pef_headline.proofs.HeadlineLemmas.{sound-headers, sound-images}
use Rattle.pef_headline.proofs.theorems.linked_is_sound.Goals as goal

pub returns : goal.returns
returns c = record { filled = sound-images; relocated = sound-headers }
