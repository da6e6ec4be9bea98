use Rattle.mac_rows.specs.Fragments.{fragment_numbers}
use Rattle.mac_rows.proofs.fragments.Fragment.print_numbers.Goals as goal

pub returns : goal.returns
unfolding fragment_numbers
returns g c = rw (c.from.ensures, c.from-2.ensures, c.from-3.ensures, c.from-4.ensures, c.from-5.ensures, c.from-6.ensures, c.from-7.ensures, c.from-8.ensures, c.from-9.ensures) at c.print_tokens.ensures
