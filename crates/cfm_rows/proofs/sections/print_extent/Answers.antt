use Rattle.cfm_rows.specs.Sections.{section_extent}
use Rattle.cfm_rows.proofs.sections.print_extent.Goals as goal

pub returns : goal.returns
unfolding section_extent
returns g c = rw c.from.ensures at c.print_pieces.ensures
