use Rattle.pef_plan.proofs.Existence.{some_certificate}
use Rattle.pef_plan.proofs.theorems.certificates_exist.Goals as goal

pub returns : goal.returns
returns c = some_certificate
