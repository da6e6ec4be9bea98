use Rattle.std.proofs.Common.{rules}
use Rattle.cfm_closure.proofs.closures.Closure.library.Goals as goal

pub returns-clause-bound : goal.returns-clause-bound
returns-clause-bound c = search rules

pub returns-clause-inside : goal.returns-clause-inside
returns-clause-inside c = search rules
