use Rattle.mac_rows.specs.Fragments.{fragment_fields}
use Rattle.mac_rows.proofs.fragments.Fragment.print_fields.Goals as goal

pub returns : goal.returns
unfolding fragment_fields
returns g c = rw (c.from.ensures, c.from-2.ensures, c.from-3.ensures, c.from-4.ensures, c.from-5.ensures, c.from-6.ensures, c.from-7.ensures, c.from-8.ensures) at c.print_tokens.ensures
