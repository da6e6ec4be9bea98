use Rattle.pef_listing.specs.Listing.{export_words}
use Rattle.pef_listing.proofs.words.ExportWordsPrinted.print.Goals as goal

pub returns : goal.returns
unfolding export_words
returns g c = rw (← c.from-class.ensures) c.print.ensures
