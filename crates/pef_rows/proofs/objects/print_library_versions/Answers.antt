use Rattle.pef_rows.specs.Objects.{library_versions}
use Rattle.pef_rows.proofs.objects.print_library_versions.Goals as goal

pub returns : goal.returns
unfolding library_versions
returns g c = rw (c.from.ensures, c.from-2.ensures) at c.print.ensures
