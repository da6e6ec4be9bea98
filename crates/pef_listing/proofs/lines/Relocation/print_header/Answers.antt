use Rattle.pef_listing.proofs.lines.Relocation.print_header.Goals as goal

pub returns : goal.returns
returns g c = rw (← c.from.ensures) c.print_pieces.ensures
