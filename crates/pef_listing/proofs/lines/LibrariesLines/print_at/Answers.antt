use Rattle.std.proofs.Common.{arith}
use Rattle.pef_listing.specs.Listing.{library_lines, library_text, library_words}
use Rattle.pef_listing.proofs.lines.LibrariesLines.print_at.Goals as goal

pub returns : goal.returns
unfolding library_lines library_text library_words
returns g c = rw (← c.in-Some.ensures.value) (record { some = omega arith; sends = c.print.ensures })
