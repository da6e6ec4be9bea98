use Rattle.std.proofs.Common.{rules}
use Rattle.pef_reloc.specs.Fixups.{fixups_fit}
use Rattle.pef_reloc.proofs.fixup.fixups_fit.Goals as goal

pub returns-else-fixups-le-MAX_FIXUPS : goal.returns-else-fixups-le-MAX_FIXUPS
unfolding fixups_fit
returns-else-fixups-le-MAX_FIXUPS c = search rules
