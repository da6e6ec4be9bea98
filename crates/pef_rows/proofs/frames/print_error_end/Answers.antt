use Rattle.pef_rows.specs.Frames.{error_end}
use Rattle.pef_rows.proofs.frames.print_error_end.Goals as goal

pub returns : goal.returns
unfolding error_end
returns g c = rw c.from.ensures at c.print_tokens.ensures
