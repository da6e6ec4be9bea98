use Rattle.pef_rows.specs.Objects.{header_counts}
use Rattle.pef_rows.proofs.objects.print_header_counts.Goals as goal

pub returns : goal.returns
unfolding header_counts
returns g c = rw (c.from.ensures, c.from-2.ensures, c.from-3.ensures, c.from-4.ensures, c.from-5.ensures) at c.print_tokens.ensures
