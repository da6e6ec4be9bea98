use Rattle.pef_headline.proofs.RefusedLemmas.{refused-container, refused-image, refused-loader, refused-program}
use Rattle.pef_headline.proofs.theorems.refusals_are_of_others.Goals as goal

pub returns : goal.returns
returns c = record { image = λ rule pairs m new name k. refused-image pairs m new name k; program = λ rule pairs there m new name k. refused-program pairs there m new name k; container = refused-container; loader = refused-loader }
