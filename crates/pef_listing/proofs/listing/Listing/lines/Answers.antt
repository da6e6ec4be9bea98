-- All lines are left at the first place.
use Rattle.pef_loader.specs.Views.{loaded}
use Rattle.pef_views.specs.Views.{contained}
use Rattle.pef_listing.proofs.ReaderLemmas.{all-left}
use Rattle.pef_listing.proofs.listing.Listing.lines.Goals as goal

pub returns : goal.returns
returns c = rw (c.new.ensures.listing, c.new.ensures.place) (all-left (contained c.args.self.container) (loaded c.args.self.loader))
