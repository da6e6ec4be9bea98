-- Shared targets are all known.
use Rattle.cfm_closure.proofs.SharedLemmas.{passes_of, resolved_of}
use Rattle.cfm_closure.proofs.bindings.Bindings.is_shared.Goals as goal

pub returns-clause-resolved : goal.returns-clause-resolved
returns-clause-resolved c = λ yes.
    resolved_of c.args.self.now.pairs c.args.p c.closed.result.now c.closed.ensures.closed (c.is_shared.ensures yes) c.args.self.now.rows c.closed.ensures.targets

pub returns-clause-passes : goal.returns-clause-passes
returns-clause-passes c = λ yes.
    passes_of c.args.self.now.pairs c.args.p c.closed.result.now c.closed.ensures.closed (c.is_shared.ensures yes)
