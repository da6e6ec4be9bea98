use Rattle.mac_rows.specs.Fragments.{fragment_codes}
use Rattle.mac_rows.proofs.fragments.Fragment.print_codes.Goals as goal

pub returns : goal.returns
unfolding fragment_codes
returns g c = rw (c.from.ensures, c.from-2.ensures, c.usage_word.ensures, c.usage.ensures, c.where_word.ensures, c.locator.ensures) at c.print_tokens.ensures
