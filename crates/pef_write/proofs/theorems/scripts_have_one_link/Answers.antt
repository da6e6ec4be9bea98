-- For a script there is one link.
use Rattle.pef_write.proofs.OneLink.{one_container, own_certificates}
use Rattle.pef_write.proofs.theorems.scripts_have_one_link.Goals as goal

pub returns : goal.returns
returns c = record { container = one_container; certificates = own_certificates }
