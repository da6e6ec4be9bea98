-- The bytes are those that were passed.
use Rattle.pef_c.proofs.reports.parts.pef_report_open_head.Goals as goal

pub returns : goal.returns
returns c = rw (c.given.ensures, c.given-2.ensures) at c.open_part.ensures
