use Rattle.pef_rows.specs.Objects.{section_sizes}
use Rattle.pef_rows.proofs.objects.print_section_sizes.Goals as goal

pub returns : goal.returns
unfolding section_sizes
returns g c = rw (← c.from.ensures, ← c.from-2.ensures, ← c.from-3.ensures, ← c.from-4.ensures, ← c.from-5.ensures) c.print_tokens.ensures
