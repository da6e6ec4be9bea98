use Rattle.pef_listing.specs.Listing.{import_words}
use Rattle.pef_listing.proofs.words.ImportWordsPrinted.print.Goals as goal

pub returns : goal.returns
unfolding import_words
returns g c = rw (← c.from-class.ensures, ← c.strength.ensures) c.print.ensures
