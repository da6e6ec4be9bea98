use Rattle.mac_rows.specs.Fragments.{fragment_use}
use Rattle.mac_rows.proofs.fragments.Fragment.print_use.Goals as goal

pub returns : goal.returns
unfolding fragment_use
returns g c = rw (c.from.ensures, c.from-2.ensures, c.word_or_mark.ensures, c.usage_word.ensures, c.usage.ensures, c.word_or_mark-2.ensures, c.where_word.ensures, c.locator.ensures, c.at_or_dash.ensures) at c.print_tokens.ensures
