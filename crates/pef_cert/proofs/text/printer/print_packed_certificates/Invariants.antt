use Rattle.std.proofs.Common.{drop}
use Rattle.std.specs.List.{AllByRecursion}
use Rattle.pef_cert.specs.declared.text.fields.Version.TheVariants.{Two}
use Rattle.pef_cert.specs.Text.Printed.{Printable, each_text}
use Rattle.pef_ports.proofs.Laws.Sending.{IsSentUpTo}
use Rattle.pef_cert.proofs.text.printer.print_packed_certificates.Given as goal

abbrev pub invariant-loop-certificate : goal.invariant-loop-certificate
invariant-loop-certificate g l = record {
  sent : IsSentUpTo (g.W.Sink.stream l.fn.out) (g.W.Sink.stream l.out) l.fn.page.items l.page.items (each_text Two l.certificates) (each_text Two (drop l.certificate-index l.certificates));
  printable : AllByRecursion Printable (drop l.certificate-index l.certificates);
}
