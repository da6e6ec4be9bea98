use Rattle.std.proofs.Common.{rules}
use Rattle.pef_reloc.proofs.fixup.Base.fits.Goals as goal

pub returns-in-Section : goal.returns-in-Section
returns-in-Section c = search rules
