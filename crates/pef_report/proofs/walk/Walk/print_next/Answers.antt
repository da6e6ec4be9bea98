-- The row and what belongs to it.
use Rattle.std.proofs.Common.{◌∙◌, ap}
use Rattle.pef_report.specs.Inspection.{merged_left, merged_text, rows_below}
use Rattle.pef_report.specs.Order.{after, rank}
use Rattle.pef_report.specs.Views.{readable}
use Rattle.pef_ports.proofs.Laws.Sending.{Prints-then, Sends-short, StopsShort-longer, StopsShort-then}
use Rattle.pef_report.proofs.walk.Walk.print_next.Goals as goal

pub returns-in_err-print_alone-clause-sends : goal.returns-in_err-print_alone-clause-sends
returns-in_err-print_alone-clause-sends g c =
    let walk = c.args.self.now in
    Sends-short _ c.from_residual.result _ c.from_residual.ensures.1 (StopsShort-longer (merged_text walk.base (rows_below (readable walk.reading) c.args.part c.args.i) (after (rank c.args.part c.args.i 0) walk.left.now)) c.in_err-print_alone.ensures.sends)

pub returns-in_err-print_below-clause-sends : goal.returns-in_err-print_below-clause-sends
returns-in_err-print_below-clause-sends g c =
    let passes = c.in_ok-print_alone.ensures.passes in
    Sends-short _ c.from_residual-in_err-print_below.result _ c.from_residual-in_err-print_below.ensures.1 (StopsShort-then c.in_ok-print_alone.ensures.sends (rw (passes.base, passes.reading, passes.left) at c.in_err-print_below.ensures.sends))

pub returns-clause-sends : goal.returns-clause-sends
returns-clause-sends g c =
    let passes = c.in_ok-print_alone.ensures.passes in
    Prints-then c.in_ok-print_alone.ensures.sends (rw (passes.base, passes.reading, passes.left) at c.in_ok-print_below.ensures.sends)

pub returns-clause-passes : goal.returns-clause-passes
returns-clause-passes g c =
    let first = c.in_ok-print_alone.ensures.passes in
    let next = rw first.reading at c.in_ok-print_below.ensures.passes in
    record {
      base = next.base ∙ first.base;
      reading = c.in_ok-print_below.ensures.passes.reading ∙ first.reading;
      left = next.left ∙ ap (merged_left (rows_below (readable c.args.self.now.reading) c.args.part c.args.i)) first.left;
    }
