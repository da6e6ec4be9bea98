use Rattle.std.proofs.Common.{rules}
use Rattle.pef_hash.proofs.chain.places_in.Goals as goal

pub returns-clause-end : goal.returns-clause-end
returns-clause-end c = search rules
