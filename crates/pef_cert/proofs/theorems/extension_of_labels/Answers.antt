use Rattle.pef_cert.proofs.ExtensionLemmas.{extension-is}
use Rattle.pef_cert.proofs.theorems.extension_of_labels.Goals as goal

pub returns : goal.returns
returns c = extension-is
