use Rattle.mac_rows.specs.Fragments.{fragment_place}
use Rattle.mac_rows.proofs.fragments.Fragment.print_place.Goals as goal

pub returns : goal.returns
unfolding fragment_place
returns g c = rw (c.from.ensures, c.name_of.ensures, c.number_or_null.ensures) at c.print_tokens.ensures
