use Rattle.std.proofs.Common.{arith}
use Rattle.std.proofs.lemmas.Grind.{elements}
use Rattle.cfm_store.proofs.store.Store.pair.Goals as goal

pub returns : goal.returns
returns c = grind (arith, elements)
