use Rattle.std.proofs.Common.{length}
use Rattle.pef_rows.proofs.dates.+month_day.Given as goal

abbrev pub decreases-month_day : goal.decreases-month_day
decreases-month_day l = length l.lengths.now
