use Rattle.std.proofs.Common.{rules}
use Rattle.cfm_store.proofs.store.Store.pairs.Goals as goal

pub returns-clause-pairs : goal.returns-clause-pairs
returns-clause-pairs c = search rules
