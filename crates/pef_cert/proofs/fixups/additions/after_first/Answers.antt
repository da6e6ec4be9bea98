use Rattle.std.proofs.Common.{rules}
use Rattle.pef_cert.proofs.fixups.additions.after_first.Goals as goal

pub returns : goal.returns
returns c = search rules
