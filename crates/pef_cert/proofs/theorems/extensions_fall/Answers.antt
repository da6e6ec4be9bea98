use Rattle.pef_cert.proofs.Soundness.{trusted-falls}
use Rattle.pef_cert.proofs.theorems.extensions_fall.Goals as goal

pub returns : goal.returns
returns c = trusted-falls
