-- Certificate after certificate.
use Rattle.std.proofs.Common.{arith}
use Rattle.std.proofs.lemmas.Grind.{common_steps}
use Rattle.pef_ports.proofs.Laws.Sending.{Sends-short, sent-piece, sent-short}
use Rattle.pef_cert.proofs.TextProofs.PrintLemmas.{each_text-more}
use Rattle.pef_cert.proofs.text.printer.print_packed_certificates.Goals as goal

pub loop-certificate-preserved : goal.loop-certificate-preserved
loop-certificate-preserved g c =
    let next = each_text-more c.args.certificates.now c.loop-certificate.certificate-index c.certificate-item.result c.loop-certificate-test.true c.certificate-item.is in
    record {
      sent = sent-piece _ c.loop-certificate.invariant.sent next c.in_ok-print_packed_certificate.ensures;
      printable = grind (arith, common_steps);
    }

pub returns-in_err-print_packed_certificate : goal.returns-in_err-print_packed_certificate
returns-in_err-print_packed_certificate g c =
    let next = each_text-more c.args.certificates.now c.loop-certificate.certificate-index c.certificate-item.result c.loop-certificate-test.true c.certificate-item.is in
    Sends-short _ c.from_residual.result _ c.from_residual.ensures.1 (sent-short _ c.loop-certificate.invariant.sent next c.in_err-print_packed_certificate.ensures)
