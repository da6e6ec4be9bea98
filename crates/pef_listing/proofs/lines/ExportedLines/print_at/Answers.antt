use Rattle.std.proofs.Common.{arith}
use Rattle.pef_listing.specs.Listing.{export_lines, export_text, export_words}
use Rattle.pef_listing.proofs.lines.ExportedLines.print_at.Goals as goal

pub returns : goal.returns
unfolding export_lines export_text export_words
returns g c = rw (← c.in-Some.ensures.value) (record { some = omega arith; sends = c.print.ensures })
