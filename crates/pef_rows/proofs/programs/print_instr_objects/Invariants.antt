use Rattle.std.proofs.Common.{length, true}
use Rattle.pef_reloc.specs.Views.{placed}
use Rattle.pef_rows.specs.Programs.{step_objects, steps_in}
use Rattle.pef_rows.specs.RowViews.{program_seen}
use Rattle.pef_ports.proofs.Laws.Sending.{IsSentUpTo}
use Rattle.pef_rows.proofs.programs.print_instr_objects.Given as goal

abbrev pub decreases-loop-step : goal.decreases-loop-step
decreases-loop-step g l = length (placed l.instrs)

abbrev pub invariant-loop-step : goal.invariant-loop-step
invariant-loop-step g l = IsSentUpTo (g.W.Sink.stream l.fn.out) (g.W.Sink.stream l.out) l.fn.page.items l.page.items
    (step_objects l.program.at true (steps_in (program_seen l.program)))
    (step_objects l.program.at l.is_first (placed l.instrs))
