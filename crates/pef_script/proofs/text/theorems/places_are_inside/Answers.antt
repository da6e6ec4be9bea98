use Rattle.pef_script.proofs.TextProofs.PlaceLemmas.{earlier_before, word_inside}
use Rattle.pef_script.proofs.text.theorems.places_are_inside.Goals as goal

pub returns-clause-word : goal.returns-clause-word
returns-clause-word c text line k = word_inside text line k

pub returns-clause-earlier : goal.returns-clause-earlier
returns-clause-earlier c text line fault k is = earlier_before text line fault k is
