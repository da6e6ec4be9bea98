-- The lines before the labels, and the labels.
use Rattle.std.proofs.Common.{refl}
use Rattle.pef_ports.proofs.Laws.Sending.{Sends-short, Sends-then, StopsShort-longer}
use Rattle.pef_cert.proofs.TextProofs.PrintLemmas.{certificate_text-head}
use Rattle.pef_cert.proofs.text.printer.print_packed_certificate.Goals as goal

pub returns-in_err-print_head : goal.returns-in_err-print_head
returns-in_err-print_head g c =
    let parts = certificate_text-head c.args.certificate.now _ c.certificate.inside.section c.rows.result c.deref.result.now c.deref-2.result.now c.certificate.view_is refl c.rows.ensures c.deref.ensures.value c.deref-2.ensures.value in
    rw parts (Sends-short _ c.from_residual.result _ c.from_residual.ensures.1 (StopsShort-longer _ c.in_err-print_head.ensures))

pub returns : goal.returns
returns g c =
    let parts = certificate_text-head c.args.certificate.now _ c.certificate.inside.section c.rows.result c.deref.result.now c.deref-2.result.now c.certificate.view_is refl c.rows.ensures c.deref.ensures.value c.deref-2.ensures.value in
    rw parts (Sends-then c.print_packed.result _ _ _ c.in_ok-print_head.ensures c.print_packed.ensures)
