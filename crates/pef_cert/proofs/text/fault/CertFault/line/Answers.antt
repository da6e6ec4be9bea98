use Rattle.std.proofs.Common.{rules}
use Rattle.pef_cert.proofs.text.fault.CertFault.line.Goals as goal

pub returns-in-BadCertificate : goal.returns-in-BadCertificate
returns-in-BadCertificate c = search rules
