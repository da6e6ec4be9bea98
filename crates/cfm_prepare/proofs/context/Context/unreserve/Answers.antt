-- The memory alone changes.
use Rattle.std.proofs.Common.{List, ap}
use Rattle.cfm_prepare.specs.Contexts.{ContextState}
use Rattle.cfm_prepare.specs.Fragments.{Present}
use Rattle.cfm_prepare.specs.Made.{choices_of}
use Rattle.cfm_prepare.proofs.context.Context.unreserve.Goals as goal

pub returns-clause-freed : goal.returns-clause-freed
returns-clause-freed c = λ tells.
    let connections = c.self.inside.connections in
    let after = c.unreserve.new.self.memory in
    let there = c.unreserve.ensures.freed tells in
    let whole : List Present → ContextState = λ fs. record { bounds = (choices_of c.self.inside.options).bounds; pairs = c.self.inside.store; memory = after; given = connections.given; connections = connections.items; present = fs } in
    rw (← c.self.view_is) (record { memory = after; frees = there.0; is = ap whole there.1 })
