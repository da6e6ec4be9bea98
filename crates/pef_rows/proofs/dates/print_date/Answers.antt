-- The day and then the time.
use Rattle.pef_rows.specs.Dates.{date_text, time_text}
use Rattle.pef_ports.proofs.Laws.Sending.{Sends-short, Sends-then, StopsShort-longer}
use Rattle.pef_rows.proofs.dates.print_date.Goals as goal

pub returns-in_err-print_day : goal.returns-in_err-print_day
unfolding date_text
returns-in_err-print_day g c = Sends-short _ c.from_residual.result _ c.from_residual.ensures.1 (StopsShort-longer (time_text c.args.seconds) c.in_err-print_day.ensures)

pub returns : goal.returns
unfolding date_text
returns g c = Sends-then c.print_time.result (g.W.Sink.stream c.print_time.new.out) _ _ c.in_ok-print_day.ensures c.print_time.ensures
