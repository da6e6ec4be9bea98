use Rattle.std.proofs.Common.{rules}
use Rattle.cfm_closure.proofs.hops.missing.Goals as goal

pub returns-then-symbol : goal.returns-then-symbol
returns-then-symbol c = search rules
