-- Words without a folder, and those of other commands, are items of their own.
use Rattle.pef_folders.proofs.PlainLemmas.{others-stay, unflagged-stay}
use Rattle.pef_folders.proofs.theorems.other_words_are_unchanged.Goals as goal

pub returns : goal.returns
returns g c = record { unflagged = unflagged-stay _; others = others-stay _ }
