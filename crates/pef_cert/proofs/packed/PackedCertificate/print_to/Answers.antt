-- The version, the certificates, and the last line.
use Rattle.std.proofs.Common.{◌++◌}
use Rattle.std.specs.Prelude.{codes}
use Rattle.pef_ports.proofs.Laws.Sending.{Sends-short, Sends-then, StopsShort-longer}
use Rattle.pef_cert.specs.declared.text.fields.Version.TheVariants.{Two}
use Rattle.pef_cert.specs.Text.Printed.{certificates_text, each_text, versioned_text}
use Rattle.pef_cert.proofs.packed.PackedCertificate.print_to.Goals as goal

pub returns-in_err-send : goal.returns-in_err-send
unfolding certificates_text versioned_text
returns-in_err-send g c =
    Sends-short _ c.from_residual.result _ c.from_residual.ensures.1 (StopsShort-longer (each_text Two c.args.certificates.now ++ codes "end\n") c.in_err-send.ensures)

pub returns-in_err-print_packed_certificates : goal.returns-in_err-print_packed_certificates
unfolding certificates_text versioned_text
returns-in_err-print_packed_certificates g c =
    let result = c.from_residual-in_err-print_packed_certificates.result in
    Sends-then result _ _ (each_text Two c.args.certificates.now ++ codes "end\n") c.in_ok-send.ensures
    (Sends-short _ result _ c.from_residual-in_err-print_packed_certificates.ensures.1 (StopsShort-longer (codes "end\n") c.in_err-print_packed_certificates.ensures))

pub returns : goal.returns
unfolding certificates_text versioned_text
returns g c =
    let result = c.send-2.result in
    Sends-then result _ _ (each_text Two c.args.certificates.now ++ codes "end\n") c.in_ok-send.ensures
    (Sends-then result _ _ (codes "end\n") c.in_ok-print_packed_certificates.ensures c.send-2.ensures)
