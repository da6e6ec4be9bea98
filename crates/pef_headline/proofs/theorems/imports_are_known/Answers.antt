use Rattle.pef_headline.proofs.KnownImports.{imports-known}
use Rattle.pef_headline.proofs.theorems.imports_are_known.Goals as goal

pub returns : goal.returns
returns c = imports-known
