-- The findings about what comes before, and the row.
use Rattle.std.proofs.Common.{◌∙◌}
use Rattle.pef_ports.proofs.Laws.Sending.{Prints-then, Sends-short, StopsShort-longer, StopsShort-then}
use Rattle.pef_report.proofs.walk.Walk.print_alone.Goals as goal

pub returns-in_err-print_before-clause-sends : goal.returns-in_err-print_before-clause-sends
returns-in_err-print_before-clause-sends g c = Sends-short _ c.from_residual.result _ c.from_residual.ensures.1 (StopsShort-longer _ (rw c.rank.ensures at c.in_err-print_before.ensures.sends))

pub returns-in_err-print_row_at-clause-sends : goal.returns-in_err-print_row_at-clause-sends
returns-in_err-print_row_at-clause-sends g c = Sends-short _ c.from_residual-in_err-print_row_at.result _ c.from_residual-in_err-print_row_at.ensures.1 (StopsShort-then (rw c.rank.ensures at c.in_ok-print_before.ensures.sends) (rw c.in_ok-print_before.ensures.passes.reading at c.in_err-print_row_at.ensures.sends))

pub returns-clause-sends : goal.returns-clause-sends
returns-clause-sends g c = Prints-then (rw c.rank.ensures at c.in_ok-print_before.ensures.sends) (rw c.in_ok-print_before.ensures.passes.reading at c.in_ok-print_row_at.ensures.sends)

pub returns-clause-passes : goal.returns-clause-passes
returns-clause-passes g c =
    let passes = rw c.rank.ensures at c.in_ok-print_before.ensures.passes in
    record {
      base = passes.base;
      reading = c.in_ok-print_row_at.ensures.same ∙ passes.reading;
      left = passes.left;
    }
