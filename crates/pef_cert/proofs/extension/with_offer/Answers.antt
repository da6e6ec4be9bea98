use Rattle.std.proofs.Common.{rules}
use Rattle.pef_cert.proofs.extension.with_offer.Goals as goal

pub returns-then-ahead-le-BOTH_REACH : goal.returns-then-ahead-le-BOTH_REACH
returns-then-ahead-le-BOTH_REACH c = search rules
