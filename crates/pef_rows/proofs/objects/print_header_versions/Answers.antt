use Rattle.pef_rows.specs.Objects.{header_versions}
use Rattle.pef_rows.proofs.objects.print_header_versions.Goals as goal

pub returns : goal.returns
unfolding header_versions
returns g c = rw (c.from.ensures, c.from-2.ensures, c.from-3.ensures) at c.print_tokens.ensures
