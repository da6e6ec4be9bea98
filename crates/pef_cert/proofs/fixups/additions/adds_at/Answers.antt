use Rattle.std.proofs.Common.{rules}
use Rattle.pef_cert.proofs.fixups.additions.adds_at.Goals as goal

pub returns-then-from-offset : goal.returns-then-from-offset
returns-then-from-offset c = search rules
