use Rattle.pef_cert.proofs.Soundness.{valid-least}
use Rattle.pef_cert.proofs.theorems.valid_programs_are_least.Goals as goal

pub returns : goal.returns
returns c = valid-least
