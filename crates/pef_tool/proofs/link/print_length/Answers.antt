use Rattle.pef_tool.specs.Link.{length_text}
use Rattle.pef_tool.proofs.link.print_length.Goals as goal

pub returns : goal.returns
unfolding length_text
returns g c = rw (← c.from.ensures) c.print_pieces.ensures
