use Rattle.pef_cert.proofs.Soundness.{trusted-extension, trusted-label, trusted-offer, trusted-set_c, trusted-set_d}
use Rattle.pef_cert.proofs.theorems.labels_are_near.Goals as goal

pub returns : goal.returns
returns c = record { offer = trusted-offer; below = trusted-label; near = trusted-extension; set_c = trusted-set_c; set_d = trusted-set_d }
