use Rattle.std.proofs.Common.{arith}
use Rattle.pef_listing.specs.Listing.{section_lines, section_text}
use Rattle.pef_listing.proofs.lines.SectionsLines.print_at.Goals as goal

pub returns : goal.returns
unfolding section_lines section_text
returns g c = rw (← c.section_name.ensures, ← c.in-Some.ensures.value, ← c.name_piece-name.ensures, ← c.from.ensures, ← c.from-2.ensures, ← c.from-3.ensures, ← c.from-4.ensures, ← c.from-5.ensures, ← c.from-6.ensures) (record { some = omega arith; sends = c.print_pieces.ensures })
