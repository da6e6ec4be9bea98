-- What is left of the rows, and of the findings among them.
use Rattle.std.proofs.Common.{◌≡◌, drop}
use Rattle.pef_report.specs.Inspection.{merged_left, merged_text, rows_of}
use Rattle.pef_report.specs.Views.{readable}
use Rattle.pef_ports.proofs.Laws.Sending.{IsSentUpTo}
use Rattle.pef_report.proofs.walk.Walk.print_parts.Given as goal

abbrev pub invariant-loop-part : goal.invariant-loop-part
invariant-loop-part g l = record {
  sent : IsSentUpTo (g.W.Sink.stream l.fn.out) (g.W.Sink.stream l.out) l.fn.page.items l.page.items
      (merged_text l.fn.self.base (rows_of (readable l.fn.self.reading) l.parts) l.fn.self.left.now)
      (merged_text l.fn.self.base (rows_of (readable l.fn.self.reading) (drop l.part-index l.parts)) l.self.left.now);
  base : l.self.base ≡ l.fn.self.base;
  reading : readable l.self.reading ≡ readable l.fn.self.reading;
  left : merged_left (rows_of (readable l.fn.self.reading) (drop l.part-index l.parts)) l.self.left.now
      ≡ merged_left (rows_of (readable l.fn.self.reading) l.parts) l.fn.self.left.now;
}
