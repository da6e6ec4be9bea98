use Rattle.pef_rows.specs.Objects.{section_codes}
use Rattle.pef_rows.proofs.objects.print_section_codes.Goals as goal

pub returns : goal.returns
unfolding section_codes
returns g c = rw (c.kind_text.ensures, c.kind.ensures, c.share_text.ensures, c.share.ensures, c.from.ensures, c.from-2.ensures) at c.print_tokens.ensures
