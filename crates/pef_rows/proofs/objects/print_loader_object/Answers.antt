use Rattle.pef_rows.specs.Objects.{loader_object}
use Rattle.pef_rows.proofs.objects.print_loader_object.Goals as goal

pub returns : goal.returns
unfolding loader_object
returns g c = rw (← c.from.ensures, ← c.from-2.ensures, ← c.from-3.ensures, ← c.from-4.ensures, ← c.from-5.ensures, ← c.from-6.ensures, ← c.from-7.ensures, ← c.from-8.ensures) c.print_tokens.ensures
