use Rattle.pef_rows.specs.Lines.{loader_line}
use Rattle.pef_rows.proofs.lines.print_loader.Goals as goal

pub returns : goal.returns
unfolding loader_line
returns g c = rw (← c.from.ensures, ← c.from-2.ensures, ← c.from-3.ensures, ← c.from-4.ensures, ← c.from-5.ensures) c.print_tokens.ensures
