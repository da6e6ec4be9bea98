use Rattle.std.proofs.Common.{◌≡◌, ◌+◌, length}
use Rattle.pef_cert.specs.declared.text.fields.Version.TheVariants.{Two}
use Rattle.pef_cert.specs.Text.Printed.{labels_text, ranges_of, ranges_text}
use Rattle.pef_ports.proofs.Laws.Sending.{IsSentUpTo}
use Rattle.pef_cert.proofs.text.printer.print_labels.Given as goal

abbrev pub invariant-loop-run : goal.invariant-loop-run
invariant-loop-run g l = record {
  sent : IsSentUpTo (g.W.Sink.stream l.fn.out) (g.W.Sink.stream l.out) l.fn.page.items l.page.items (labels_text Two l.labels.rows) (ranges_text (ranges_of l.at l.runs));
  count : l.at + length l.runs ≡ length l.labels.rows;
}

abbrev pub decreases-loop-run : goal.decreases-loop-run
decreases-loop-run g l = length l.runs
