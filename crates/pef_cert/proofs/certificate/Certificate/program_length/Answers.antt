use Rattle.std.proofs.Common.{rules}
use Rattle.pef_cert.proofs.certificate.Certificate.program_length.Goals as goal

pub returns : goal.returns
returns c = search rules
