-- What is left is what the struct holds.
use Rattle.pef_c.proofs.reports.parts.pef_report_open_end.Goals as goal

pub returns : goal.returns
returns c = rw (c.turn_of.ensures, c.given.ensures) at c.open_part.ensures
