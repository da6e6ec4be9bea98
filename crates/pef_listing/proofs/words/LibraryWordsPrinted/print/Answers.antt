use Rattle.pef_listing.specs.Listing.{library_words}
use Rattle.pef_listing.proofs.words.LibraryWordsPrinted.print.Goals as goal

pub returns : goal.returns
unfolding library_words
returns g c = rw (← c.from.ensures, ← c.from-2.ensures) c.print.ensures
