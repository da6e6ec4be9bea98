use Rattle.mac_rows.specs.Fragments.{fragment_versions}
use Rattle.mac_rows.proofs.fragments.Fragment.print_versions.Goals as goal

pub returns : goal.returns
unfolding fragment_versions
returns g c = rw (c.from.ensures, c.from-2.ensures) at c.print_tokens.ensures
