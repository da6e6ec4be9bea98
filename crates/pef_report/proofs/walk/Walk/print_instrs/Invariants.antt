-- What is left of the instructions, and of the findings among them.
use Rattle.std.proofs.Common.{◌≡◌, length, map}
use Rattle.pef_reloc.specs.Views.{placed}
use Rattle.pef_report.specs.Inspection.{instr_row, merged_left, merged_text}
use Rattle.pef_rows.specs.Programs.{steps_in}
use Rattle.pef_rows.specs.RowViews.{program_seen}
use Rattle.pef_report.specs.Views.{readable}
use Rattle.pef_ports.proofs.Laws.Sending.{IsSentUpTo}
use Rattle.pef_report.proofs.walk.Walk.print_instrs.Given as goal

abbrev pub decreases-loop-step : goal.decreases-loop-step
decreases-loop-step g l = length (placed l.instrs)

abbrev pub invariant-loop-step : goal.invariant-loop-step
invariant-loop-step g l = record {
  sent : IsSentUpTo (g.W.Sink.stream l.fn.out) (g.W.Sink.stream l.out) l.fn.page.items l.page.items
      (merged_text l.fn.self.base (map (instr_row l.k l.program.at) (steps_in (program_seen l.program))) l.fn.self.left.now)
      (merged_text l.fn.self.base (map (instr_row l.k l.program.at) (placed l.instrs)) l.self.left.now);
  base : l.self.base ≡ l.fn.self.base;
  reading : readable l.self.reading ≡ readable l.fn.self.reading;
  left : merged_left (map (instr_row l.k l.program.at) (placed l.instrs)) l.self.left.now
      ≡ merged_left (map (instr_row l.k l.program.at) (steps_in (program_seen l.program))) l.fn.self.left.now;
}
