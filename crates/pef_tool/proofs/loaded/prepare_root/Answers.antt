-- The context is new.
use Rattle.std.proofs.Common.{subst}
use Rattle.cfm_prepare.specs.Contexts.{ContextState}
use Rattle.cfm_prepare.specs.Steps.{MayNotPrepare, Prepares}
use Rattle.pef_tool.proofs.LoadLemmas.{prepared-limit}
use Rattle.pef_tool.proofs.loaded.prepare_root.Goals as goal

pub invariant_of-result : goal.invariant_of-result
invariant_of-result c =
    let P : ContextState → Type 0 = λ s. Prepares s c.args.name.now c.in-Ok.connection.0 c.prepare.new.self in
    record { low = prepared-limit c.args.store c.args.name.now c.in-Ok.connection.0 c.prepare.new.self (subst P c.new-context.ensures c.in-Ok.ensures.prepared) }

pub returns-clause-refused : goal.returns-clause-refused
returns-clause-refused c =
    let P : ContextState → Type 0 = λ s. MayNotPrepare s c.args.name.now c.in-Err.fault in
    subst P c.new-context.ensures c.in-Err.ensures.refused
