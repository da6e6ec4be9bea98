use Rattle.mac_rows.specs.Records.{dates_object}
use Rattle.mac_rows.proofs.record.FileDates.print_members.Goals as goal

pub returns : goal.returns
unfolding dates_object
returns g c =
    rw (c.number_or_null.ensures, c.number_of.ensures, c.date_opened.ensures, c.date_digits.ensures, c.text_if.ensures, c.is_some.ensures, c.number_or_null-2.ensures, c.number_of-2.ensures, c.date_opened-2.ensures, c.date_digits-2.ensures, c.text_if-2.ensures, c.is_some-2.ensures)
    at c.print_tokens.ensures
