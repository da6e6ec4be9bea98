-- What is left of the rows, and of the findings among them.
use Rattle.std.proofs.Common.{◌≡◌, ◌-◌}
use Rattle.pef_report.specs.Inspection.{merged_left, merged_text, rows_among}
use Rattle.pef_report.specs.Readable.{row_count}
use Rattle.pef_report.specs.Views.{readable}
use Rattle.pef_ports.proofs.Laws.Sending.{IsSentUpTo}
use Rattle.pef_report.proofs.walk.Walk.print_part.Given as goal

abbrev pub invariant-loop-i : goal.invariant-loop-i
invariant-loop-i g l = record {
  sent : IsSentUpTo (g.W.Sink.stream l.fn.out) (g.W.Sink.stream l.out) l.fn.page.items l.page.items
      (merged_text l.fn.self.base (rows_among (readable l.fn.self.reading) l.part 0 (row_count (readable l.fn.self.reading) l.part)) l.fn.self.left.now)
      (merged_text l.fn.self.base (rows_among (readable l.fn.self.reading) l.part l.i (row_count (readable l.fn.self.reading) l.part - l.i)) l.self.left.now);
  base : l.self.base ≡ l.fn.self.base;
  reading : readable l.self.reading ≡ readable l.fn.self.reading;
  left : merged_left (rows_among (readable l.fn.self.reading) l.part l.i (row_count (readable l.fn.self.reading) l.part - l.i)) l.self.left.now
      ≡ merged_left (rows_among (readable l.fn.self.reading) l.part 0 (row_count (readable l.fn.self.reading) l.part)) l.fn.self.left.now;
}
