use Rattle.std.proofs.Common.{rules}
use Rattle.cfm_closure.proofs.bindings.Bindings.imports.Goals as goal

pub returns : goal.returns
returns c = search rules
