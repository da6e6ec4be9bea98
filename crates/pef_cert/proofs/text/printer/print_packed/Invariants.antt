use Rattle.std.proofs.Common.{drop}
use Rattle.pef_labels.specs.Rows.{RunsFull, rows_from}
use Rattle.pef_cert.specs.declared.text.fields.Version.TheVariants.{Two}
use Rattle.pef_cert.specs.Text.Printed.{labels_text, ranges_of, ranges_text}
use Rattle.pef_ports.proofs.Laws.Sending.{IsSentUpTo}
use Rattle.pef_cert.proofs.text.printer.print_packed.Given as goal

abbrev pub invariant-loop-end : goal.invariant-loop-end
invariant-loop-end g l = record {
  sent : IsSentUpTo (g.W.Sink.stream l.fn.out) (g.W.Sink.stream l.out) l.fn.page.items l.page.items (labels_text Two l.labels.rows) (ranges_text (ranges_of l.first (rows_from l.width l.first (drop l.end-index l.ends) l.numbers)));
  full : RunsFull l.width l.first (drop l.end-index l.ends) l.numbers;
}
