use Rattle.pef_headline.proofs.EnoughLemmas.{enough-met}
use Rattle.pef_headline.proofs.theorems.enough_to_prepare.Goals as goal

pub returns : goal.returns
returns c = enough-met
