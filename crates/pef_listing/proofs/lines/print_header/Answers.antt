use Rattle.pef_listing.specs.Listing.{container_text}
use Rattle.pef_listing.proofs.lines.print_header.Goals as goal

pub returns : goal.returns
unfolding container_text
returns g c = rw (← c.from.ensures, ← c.from-2.ensures, ← c.from-3.ensures, ← c.from-4.ensures) c.print_pieces.ensures
