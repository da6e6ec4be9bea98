use Rattle.pef_rows.specs.Objects.{library_imports}
use Rattle.pef_rows.proofs.objects.print_library_imports.Goals as goal

pub returns : goal.returns
unfolding library_imports
returns g c = rw (← c.from.ensures, ← c.from-2.ensures, ← c.from-3.ensures) c.print.ensures
