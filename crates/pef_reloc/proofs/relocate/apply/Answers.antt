use Rattle.std.proofs.Common.{rules}
use Rattle.pef_reloc.proofs.relocate.apply.Goals as goal

pub returns : goal.returns
returns c = search rules
