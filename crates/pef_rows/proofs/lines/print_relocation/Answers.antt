use Rattle.pef_rows.specs.Lines.{relocation_line}
use Rattle.pef_rows.proofs.lines.print_relocation.Goals as goal

pub returns : goal.returns
unfolding relocation_line
returns g c = rw (← c.from.ensures, ← c.from-2.ensures, ← c.from-3.ensures) c.print_tokens.ensures
